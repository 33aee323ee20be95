-- The pair that the search of crate nearness finds is the best one: where the target is at least 64, its second divisor is the smallest of
-- those equally near.
-- Assumes nothing.
use mathlib.Core.Path.{◌≡◌, ◌∙◌, sym, ap, subst, fun_ext}
use mathlib.Core.Logic.{⊎_elim}
use Prim.Native.Nat.{ℕ, suc, ◌*◌, ◌/◌, ◌≤◌, ◌<◌}
use native.Mathlib.Nat.{mul-le-mul_left, suc-mul, mul-suc, mul_assoc, one-mul, div-one, div-mul-le_self, le-div_iff_mul-le, div-div-eq-div-mul}
use native.Mathlib.Omega.{arith}
use Rattle.refusals.specs.Told.{answered}
use Rattle.nearness.specs.Distance.{distance, InRange}
use Rattle.nearness.specs.Found.{AtTurn, Found}
use Rattle.nearness.proofs.Distance.{over, le_or_lt}
use Rattle.nearness.proofs.Falling.{Turn, row_turn}
use Rattle.i2c.specs.Divisors.{calculation, clock, config, Best, Right}
use Rattle.i2c.specs.declared.Speed.{Speed}
use Rattle.i2c.specs.declared.Speed.TheVariants.{Normal100kHz, HighSpeed400KHz}

-- of the second divisors that are equally near b is the smallest
abbrev pub Smallest : (ℕ → ℕ) → ℕ → ℕ → Type 0
Smallest value target b = (e : ℕ) → InRange 64 e → distance (value e) target ≡ distance (value b) target → b ≤ e

module _ (x : ℕ) {target b diff : ℕ} (high : 64 ≤ target) (row : AtTurn (λ e. x / e) target 64 b diff) where
  -- no two divisors that reach the target give the same frequency
  strict : (e : ℕ) → target ≤ x / b → 1 ≤ e → e < b → x / b < x / e
  strict e reaches one l =
      let v : ℕ = x / b in
      (le-div_iff_mul-le {x = suc v} {y = x} one).1
      (omega (arith, row.nearest.second_range.to_largest, mul-le-mul_left v l, mul-suc v e, suc-mul v e, div-mul-le_self x b))

  pub smallest : Smallest (λ e. x / e) target b
  smallest e r same =
      ⊎_elim
      (λ reaches. ⊎_elim (λ le. le)
      (λ lt. let s : x / b < x / e = strict e reaches r.from_one lt in
      absurd (omega (arith, over (x / b) target reaches, over (x / e) target (omega arith))))
      (le_or_lt b e))
      (λ below. ⊎_elim (λ too_far. absurd (omega (arith, row.nearer below e r too_far))) (λ too. row.first below e r too)
      (le_or_lt target (x / e)))
      (le_or_lt target (x / b))

-- a quotient of 0 misses the target at once
pub missed_at_once : (x target : ℕ) → 64 ≤ target → x / target ≡ 0 → x < target
missed_at_once x target high e =
    let turn : Turn (λ e. x / e) target (x / target) = simp (one-mul, div-one) at (row_turn x {c = 1} (omega arith) {target = target} (omega arith)) in
    rw (← (div-one x)) (turn.missed 1 (omega arith))

module _ (input : ℕ) where
  twice : (a : ℕ) → clock input a ≡ (λ e. input / (22 * a) / e)
  twice a = fun_ext (λ e. sym (div-div-eq-div-mul input (22 * a) e))

  over_22 : (λ a b. input / 22 / (a * b)) ≡ clock input
  over_22 = fun_ext (λ a. fun_ext (λ b. div-div-eq-div-mul input 22 (a * b) ∙ ap (λ n. input / n) (sym (mul_assoc 22 a b))))

  best : {target a b : ℕ} → 64 ≤ target → Found (λ a b. input / 22 / (a * b)) target 4 64 a b → Best input target a b
  best {target} {a} {b} high found =
      let is : Found (clock input) target 4 64 a b = subst (λ (value : ℕ → ℕ → ℕ). Found value target 4 64 a b) over_22 found in
      record {
        nearest = is.nearest;
        smallest_second =
            subst (λ (value : ℕ → ℕ). Smallest value target b) (sym (twice a))
            (smallest (input / (22 * a)) high
            (subst (λ (value : ℕ → ℕ). AtTurn value target 64 b (distance (clock input a b) target)) (twice a) is.row));
      }

pub calculation_bounds : (speed : Speed) → (64 ≤ calculation speed) × (calculation speed ≤ 384_600)
calculation_bounds Normal100kHz = omega arith
calculation_bounds HighSpeed400KHz = omega arith

pub done : {input target a b : ℕ} {speed : Speed} → target ≡ calculation speed → input ≤ 5632 * target
    → Found (λ a b. input / 22 / (a * b)) target 4 64 a b → Right input speed (answered (config a b))
done {input} {target} {a} {b} {speed} e l found =
    Right.found a b (omega arith)
    (best input (calculation_bounds speed).0 (subst (λ (n : ℕ). Found (λ a b. input / 22 / (a * b)) n 4 64 a b) e found))
