-- What a call hands back as numbers: one of 64 bits, and a lent row of words. Programs in C get just this, and the desk prints it.
use Rattle.std.specs.Prelude.{ℕ, Result, ◌+◌, ◌*◌, ◌^◌, ◌≡◌, List, [], ◌∷◌, ◌++◌, length, drop}
use Rattle.bounds.specs.Within.{Within}
use Rattle.refusals.specs.Told.{Told, answered, refused}
use Rattle.refusals.specs.Carried.{Carried}
use Rattle.refusals.specs.Refusal.{told}
use Rattle.refusals.specs.declared.Refusal.{Refusal}
use Rattle.refusals.specs.Number.{NO_ROOM}

abbrev pub first : List ℕ → ℕ
first [] = 0
first (c ∷ cs) = c

-- a refusal as one number of 64 bits: its own number below, what it carries above
abbrev pub code : ℕ → List ℕ → ℕ
code number carried = number + first carried * 2 ^ 32

-- what is told, as that number: 0 for an answer
abbrev pub coded : {A : Type 0} → Told A → ℕ
coded (answered a) = 0
coded (refused number carried) = code number carried

-- the same of a call that puts its answer into a row
abbrev pub returned : Result (Unit {0}) Refusal → ℕ
returned r = coded (told r)

-- An answer is 0, with its words at the front of the row and what lies behind them as it was. A refusal leaves the row as it was.
-- `Tells` is what the call tells.
pub data Given (Tells : Told (List ℕ) → Type 0) (before : List ℕ) : ℕ → List ℕ → Type 0 where
  refusal : {number : ℕ} {carried : List ℕ} → Carried number carried → Tells (refused number carried) → Given Tells before (code number carried) before
  answer : {words : List ℕ} → Tells (answered words) → Given Tells before 0 (words ++ drop (length words) before)

-- A row too short for the answer, as many words as `room` says, is refused before anything else is looked at.
abbrev pub Handed : ℕ → (Told (List ℕ) → Type 0) → List ℕ → ℕ → List ℕ → Type 0
Handed room Tells before r after =
    Within room (length before) (Given Tells before r after) ((r ≡ code NO_ROOM (room ∷ [])) × (after ≡ before))

-- what a call tells that answers one number and refuses nothing
pub data Answers (value : ℕ) : Told (List ℕ) → Type 0 where
  answers : Answers value (answered (value ∷ []))
