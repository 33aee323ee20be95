-- The best pair of divisors, as document 01 has it under "Two-stage".
use Rattle.std.specs.Prelude.{ℕ, ◌*◌, ◌/◌, ◌≤◌, ◌<◌, ◌≡◌}
use Rattle.nearness.specs.Distance.{distance, InRange}
use Rattle.nearness.specs.Nearest.{Nearest}

-- in whole Hertz, rounded down. A quotient by 0 is 0 here, so a divisor of 0 gives 0 Hertz: no clock
abbrev pub frequency : ℕ → ℕ → ℕ → ℕ
frequency reference d0 d1 = reference / (d0 * d1)

-- `value` gives the frequency for each second divisor, the first being fixed
abbrev pub EquallyNear : (ℕ → ℕ) → ℕ → ℕ → ℕ → Type 0
EquallyNear value target e1 d1 = distance (value e1) target ≡ distance (value d1) target

-- Among the second divisors that are equally near: if any is not below the target, d1 is the largest of those; else it
-- is the smallest. (By the first of these, where d1 is below the target, so are all of them.)
pub record SecondRule (value : ℕ → ℕ) (target largest d1 : ℕ) : Type 0 where
  pub if_any_not_below :
      (e1 : ℕ) → InRange largest e1 → EquallyNear value target e1 d1
      → target ≤ value e1 → (target ≤ value d1) × (e1 ≤ d1)
  pub else_smallest :
      (e1 : ℕ) → InRange largest e1 → EquallyNear value target e1 d1
      → value d1 < target → d1 ≤ e1

-- Both divisors are from 1 to the largest; no such pair gives a frequency nearer the target; none equally near has a
-- smaller first divisor (all this is `Nearest`); and the second divisor is the one that the rule settles.
pub record Best (reference target largest d0 d1 : ℕ) : Type 0 where
  pub nearest : Nearest (frequency reference) target largest largest d0 d1
  pub second : SecondRule (frequency reference d0) target largest d1
