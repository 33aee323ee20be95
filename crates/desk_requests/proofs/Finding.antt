-- From the code's table to the table of specs/. Assumes nothing.
use Prim.Native.Nat.{ℕ}
use mathlib.Core.Path.{◌≡◌, refl, ap, ◌∙◌, subst⁻¹}
use mathlib.Core.Bool.{Bool, true, false}
use mathlib.Core.List.{List, [], ◌∷◌, map}
use lib.Dec.{eqb}
use lib.ListN.{length, get_or, get_or-map}
use Rattle.words.proofs.Choosing.{never}
use Rattle.std.specs.Prelude.{Option, Some, None, Result, Ok, MatchOption, MatchResult, ok_or}
use Rattle.text.specs.Bytes.{bytes}
use Rattle.words.specs.Words.{place_of}
use Rattle.shapes.specs.Named.{named_of}
use Rattle.shapes.specs.declared.BadWord.{BadWord}
use Rattle.shapes.specs.declared.fields.Fault.TheVariants as Fault
use Rattle.desk_requests.specs.Row.{Request, request}
use Rattle.desk_requests.specs.Table.{row, requests, no_call, names, shapes}
use Rattle.desk_requests.specs.Found.{Found, Unknown}
use Rattle.desk_requests.specs.declared.table.Row.{Row}

pub same_shape : (place : ℕ) → get_or shapes place (bytes "") ≡ bytes (row place).shape
unfolding row shapes
same_shape place = get_or-map (λ (r : Request). bytes r.shape) requests place (request no_call)

abbrev pub rules : List (List ℕ → List ℕ → Type 0)
rules = map (λ (r : Request). r.says) requests

pub same_rule : (place : ℕ) → get_or rules place (request no_call).says ≡ (row place).says
unfolding row
same_rule place = get_or-map (λ (r : Request). r.says) requests place (request no_call)

-- a name that is no empty word
pub at_place : (name : List ℕ) {place : ℕ} → (name ≡ [] → ⊥) → place_of name names ≡ Some place → (rest : List (List ℕ)) → named_of names (name ∷ rest) ≡ Ok place
at_place [] n e rest = absurd (n refl)
at_place (c ∷ name) n e rest = rw e refl

abbrev no_such_name : BadWord
no_such_name = record { word = 1; fault = Fault.NoSuchName }

nowhere : (name : List ℕ) → (name ≡ [] → ⊥) → place_of name names ≡ None → Unknown name no_such_name
nowhere [] n e = absurd (n refl)
nowhere (c ∷ name) n e = (refl, λ rest. rw e refl)

pub none_named : {name : List ℕ} {b : Bool} → b ≡ false → b ≡ eqb (length name) 0 → name ≡ [] → ⊥
none_named {name} f is z = let e : eqb (length name) 0 ≡ true = ap (λ (l : List ℕ). eqb (length l) 0) z in never (cc)

-- what is answered of a name that is no empty word
pub looked : (name : List ℕ) → (name ≡ [] → ⊥) → (o : Option Row) (r : Result Row BadWord) {p : Option Row} → MatchOption p (place_of name names ≡ None) (Found name) → o ≡ p → r ≡ ok_or o no_such_name →
    MatchResult r (Found name) (Unknown name)
looked name given o r {p = None} none same is = subst⁻¹ (λ (q : Result Row BadWord). MatchResult q (Found name) (Unknown name)) (is ∙ ap (λ (q : Option Row). ok_or q no_such_name) same) (nowhere name given none)
looked name given o r {p = Some x} found same is = subst⁻¹ (λ (q : Result Row BadWord). MatchResult q (Found name) (Unknown name)) (is ∙ ap (λ (q : Option Row). ok_or q no_such_name) same) found
