-- The two sides of a bound: a number is on one of them.
use Prim.Native.Nat.{ℕ, ◌≤◌, ◌<◌}
use native.Mathlib.Omega.{arith}
use native.Mathlib.Decide.{dec_le}
use Rattle.bounds.specs.Within.{Within}

-- what follows from two promises on either side follows from both of them
pub both : {n most : ℕ} {Kept Past Kept₂ Past₂ R : Type 0} → (Kept → Kept₂ → R) → (Past → Past₂ → R) → Within n most Kept Past → Within n most Kept₂ Past₂ → R
both {n} {most} {R = R} k p x y = by (dec_le n most)
  where
    by : Dec (n ≤ most) → R
    by (yes h) = k (x.fits h) (y.fits h)
    by (no h) = let g : most < n = omega arith in p (x.full g) (y.full g)

module _ {n most : ℕ} {Kept Past : Type 0} where
  pub kept : n ≤ most → Kept → Within n most Kept Past
  kept h k = record { fits = λ _. k; full = λ g. absurd (omega arith) }

  pub past : most < n → Past → Within n most Kept Past
  past h p = record { fits = λ g. absurd (omega arith); full = λ _. p }
