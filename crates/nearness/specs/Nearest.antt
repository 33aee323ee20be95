-- The nearest divisors: in one row, where the first divisor is fixed and `value` gives the frequency for each second
-- divisor, and among all pairs, where `value` gives the frequency for both. What is to be done on a tie of the second
-- divisor is each search's own.
use Rattle.std.specs.Prelude.{ℕ, ◌≤◌, ◌≡◌}
use Rattle.nearness.specs.Distance.{distance, InRange}

-- no divisor of the row, 1 to seconds, gives a frequency nearer the target
pub record NearestInRow (value : ℕ → ℕ) (target seconds d1 : ℕ) : Type 0 where
  pub second_range : InRange seconds d1
  pub nothing_nearer : (e1 : ℕ) → InRange seconds e1 → distance (value d1) target ≤ distance (value e1) target

-- no pair, 1 to firsts and 1 to seconds, gives a frequency nearer the target, and none equally near has a smaller first
-- divisor
pub record Nearest (value : ℕ → ℕ → ℕ) (target firsts seconds d0 d1 : ℕ) : Type 0 where
  pub first_range : InRange firsts d0
  pub second_range : InRange seconds d1
  pub nothing_nearer :
      (e0 e1 : ℕ) → InRange firsts e0 → InRange seconds e1
      → distance (value d0 d1) target ≤ distance (value e0 e1) target
  pub smallest_first :
      (e0 e1 : ℕ) → InRange firsts e0 → InRange seconds e1
      → distance (value e0 e1) target ≡ distance (value d0 d1) target → d0 ≤ e0
