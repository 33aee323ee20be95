-- A request is a row of the desk's table: its name, the shape of its words, what it says, its line of help.
use Rattle.std.specs.Prelude.{ℕ, List}
use Prim.Native.String.{String}
use Rattle.refusals.specs.Told.{Told, answered, refused}
use Rattle.text.specs.Bytes.{bytes}
use Rattle.forms.specs.Form.{printed}
use Rattle.forms.specs.Told.{refusal_text}
use Rattle.desk_calls.specs.Calls.{Telling}

-- `says` is about the numbers that were read by the shape, and the text of the answer
pub record Request : Type 1 where
  pub name : String
  pub shape : String
  pub says : List ℕ → List ℕ → Type 0
  pub help : String

-- what a call tells, in print: its words by the row's form, or the refusal
pub data Spoken (form : List ℕ) (Tells : Told (List ℕ) → Type 0) : List ℕ → Type 0 where
  answer : {words : List ℕ} → Tells (answered words) → Spoken form Tells (printed form words)
  refuses : {n : ℕ} {carried : List ℕ} → Tells (refused n carried) → Spoken form Tells (refusal_text n carried)

-- A request that is a call: how its words are printed is a form, in which `_` is a space.
pub record CallRow : Type 1 where
  pub name : String
  pub shape : String
  pub form : String
  pub tells : Telling
  pub help : String

abbrev pub call : String → String → String → Telling → String → CallRow
call name shape form tells help = record { name = name; shape = shape; form = form; tells = tells; help = help }

abbrev pub request : CallRow → Request
request r = record { name = r.name; shape = r.shape; says = λ n. Spoken (bytes r.form) (r.tells n); help = r.help }
