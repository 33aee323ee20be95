-- What a search finds where the frequency falls as the second divisor grows: in a row, and among all pairs. What is done on a tie of the
-- second divisor follows from it, for each search by its own rule.
use Rattle.std.specs.Prelude.{ℕ, ◌≤◌, ◌<◌, ◌≡◌}
use Rattle.nearness.specs.Distance.{distance, InRange}
use Rattle.nearness.specs.Nearest.{NearestInRow, Nearest}

-- d1 is the nearest of the row, `diff` off: the last divisor that reaches the target, or else the first that does not, and then nearer
-- than each that does
pub record AtTurn (value : ℕ → ℕ) (target seconds d1 diff : ℕ) : Type 0 where
  pub nearest : NearestInRow value target seconds d1
  pub last : target ≤ value d1 → (e1 : ℕ) → InRange seconds e1 → target ≤ value e1 → e1 ≤ d1
  pub first : value d1 < target → (e1 : ℕ) → InRange seconds e1 → value e1 < target → d1 ≤ e1
  pub nearer :
      value d1 < target → (e1 : ℕ) → InRange seconds e1 → target ≤ value e1
      → distance (value d1) target < distance (value e1) target
  pub is_diff : diff ≡ distance (value d1) target

-- the pair is the nearest of all, and stands so in its row
pub record Found (value : ℕ → ℕ → ℕ) (target firsts seconds d0 d1 : ℕ) : Type 0 where
  pub nearest : Nearest value target firsts seconds d0 d1
  pub row : AtTurn (value d0) target seconds d1 (distance (value d0 d1) target)
