-- What is written for a run of input that comes in pieces. A run is told with two marks, before and after it: whether the rest
-- of a line that was already answered is to be swallowed.
use Rattle.std.specs.Prelude.{ℕ, ◌<◌, ◌≡◌, Bool, true, false, List, [], ◌∷◌, ◌++◌, length, get_or}
use Rattle.desk.specs.Line.{Line}

abbrev pub NoNewline : List ℕ → Type 0
NoNewline l = (k : ℕ) → k < length l → get_or l k 0 ≡ 10 → ⊥

pub data Session (before : Bool) : List ℕ → List ℕ → Bool → Type 0 where
  start : Session before [] [] before
  line : {input texts : List ℕ} (l text : List ℕ) → Session before input texts false → NoNewline l → Line l text → Session before (input ++ (l ++ (10 ∷ []))) (texts ++ text) false
  too_long : {input texts : List ℕ} (l text : List ℕ) → Session before input texts false → NoNewline l → 1025 < length l → Line l text → Session before (input ++ l) (texts ++ text) true
  swallow : {input texts : List ℕ} (l : List ℕ) → Session before input texts true → NoNewline l → Session before (input ++ l) texts true
  swallowed : {input texts : List ℕ} (l : List ℕ) → Session before input texts true → NoNewline l → Session before (input ++ (l ++ (10 ∷ []))) texts false
