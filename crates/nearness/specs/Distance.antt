-- How far apart two frequencies are, in whole Hertz, and the range that a divisor is taken from.
use Rattle.std.specs.Prelude.{ℕ, ◌+◌, ◌-◌, ◌≤◌}

-- one of the two differences is 0, since a difference of naturals never goes below 0
unfoldable pub distance : ℕ → ℕ → ℕ
distance a b = (a - b) + (b - a)

-- 1 ≤ divisor ≤ largest
pub record InRange (largest divisor : ℕ) : Type 0 where
  pub from_one : 1 ≤ divisor
  pub to_largest : divisor ≤ largest
