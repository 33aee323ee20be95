-- The answer to one line of input.
use Rattle.std.specs.Prelude.{ℕ, ◌≡◌, cond, List, [], ◌∷◌, ◌++◌, eqb, ltb, length, Result}
use Prim.Native.String.{String}
use Rattle.text.specs.Bytes.{bytes}
use Rattle.text.specs.Page.{Contents}
use Rattle.text.specs.Put.{Wrote, InRoom}
use Rattle.text.specs.declared.page.Full.{Full}
use Rattle.words.specs.Words.{words}
use Rattle.forms.specs.Says.{ROOM}
use Rattle.desk_requests.specs.Answer.{Answer}

-- a line without a carriage return at its end
abbrev pub trimmed : List ℕ → List ℕ
trimmed [] = []
trimmed (c ∷ []) = cond (eqb c 13) [] (c ∷ [])
trimmed (c ∷ d ∷ line) = c ∷ trimmed (d ∷ line)

abbrev pub TOO_LONG : String
TOO_LONG = "bad line: longer than 1024 bytes\n"

-- a request's answer and a newline
pub data RequestLine (line : List (List ℕ)) : List ℕ → Type 0 where
  answer : (text : List ℕ) → Answer line text → RequestLine line (text ++ (10 ∷ []))

-- a right text was written
pub record Writes (Right : List ℕ → Type 0) (before after : Contents) : Type 0 where
  pub text : List ℕ
  pub right : Right text
  pub wrote : Wrote text before after

-- A line that is blank or begins with # is passed over, one of more than 1024 bytes is told so, and any other is a request.
pub data Kind : Type 0 where
  passed : Kind
  too_long : Kind
  request : Kind

abbrev pub kind_of : List ℕ → Kind
kind_of [] = passed
kind_of (c ∷ line) = cond (eqb c 35) passed (cond (ltb 1024 (length (c ∷ line))) too_long request)

abbrev pub TextOf : Kind → List ℕ → List ℕ → Type 0
TextOf passed line text = text ≡ []
TextOf too_long line text = text ≡ bytes TOO_LONG
TextOf request line text = RequestLine (words line) text

-- what is written for a line, which is given without its newline
pub record Line (line text : List ℕ) : Type 0 where
  pub text_is : TextOf (kind_of (trimmed line)) (trimmed line) text

-- and where: a page without room for the longest answer is refused and left as it was
abbrev pub LineAnswered : List ℕ → Contents → Contents → Result Unit Full → Type 0
LineAnswered line = InRoom ROOM (Writes (Line line))
