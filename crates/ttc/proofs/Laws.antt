-- Laws of the TTC's ticks: they fall as k grows, so there is one least k and one right answer; and the top 16 bits of a longer
-- quotient are its ticks at the least k, which is at most 16.
-- Assumes nothing.
use mathlib.Core.Path.{◌≡◌, refl, sym, ap, ◌∙◌, subst, subst₂}
use Prim.Native.Nat.{ℕ, zero, suc, ◌+◌, ◌-◌, ◌/◌, ◌^◌, ◌≤◌, ◌<◌, zero-le}
use native.Mathlib.Nat.{le_trans, le_of_eq, le_antisymm, le_of_suc-le-suc, lt_of_not-le, not-le_of_lt, lt_irrefl, le_dest, not-suc-le-zero, mul_comm, div-one, div-le_self, div-div-eq-div-mul, le-div_iff_mul-le}
use native.Mathlib.Omega.{arith}
use lib.Pow.{pow_pos, pow_mono, pow-add, shr-shr, shr_lt}
use lib.Count.{count_leading_zeros, leading_top}
use Rattle.std.specs.Prelude.{None, Some}
use Rattle.refusals.specs.Told.{Told, answered}
use Rattle.ttc.specs.Interval.{ticks, Least, setting, Right}
use Rattle.ttc.specs.declared.Setting.{Setting}

module _ (reference frequency : ℕ) where
  -- one division, and then halvings
  pub halved : (k : ℕ) → reference / frequency / 2 ^ k ≡ ticks reference frequency k
  halved k = div-div-eq-div-mul reference frequency (2 ^ k) ∙ ap (λ (d : ℕ). reference / d) (mul_comm frequency (2 ^ k))

  pub falls : {j k : ℕ} → j ≤ k → ticks reference frequency k ≤ ticks reference frequency j
  falls {j} {k} h =
      let x : ℕ = reference / frequency in
      let d = le_dest h in
      le_trans (le_of_eq (sym (halved k) ∙ ap (λ (n : ℕ). x / 2 ^ n) (sym d.1) ∙ sym (shr-shr x j d.0)))
      (le_trans (div-le_self (x / 2 ^ j) (2 ^ d.0)) (le_of_eq (halved j)))

  not_before : {j k : ℕ} → Least reference frequency j → Least reference frequency k → j ≤ k
  not_before {j} {k} a b = le_of_suc-le-suc (lt_of_not-le (λ (h : suc k ≤ j). not-le_of_lt (a.least k h) b.fits))

  pub least_unique : {j k : ℕ} → Least reference frequency j → Least reference frequency k → j ≡ k
  least_unique a b = le_antisymm (not_before a b) (not_before b a)

  pub unique : {a b : Told Setting} → Right reference frequency a → Right reference frequency b → a ≡ b
  unique (Right.zero_target e) (Right.zero_target e') = refl
  unique (Right.zero_target e) (Right.found k p l s) = absurd (omega arith)
  unique (Right.found k p l s) (Right.zero_target e) = absurd (omega arith)
  unique (Right.found k p l s) (Right.found k' p' l' s') = ap (λ (n : ℕ). answered (setting reference frequency n)) (least_unique l l')

-- x is too long for 16 bits, and k halvings, the fewest that do, make it fit
pub record Cut (x k : ℕ) : Type 0 where
  pub some : 0 < k
  pub at_most : k ≤ 16
  pub fits : x / 2 ^ k ≤ 65535
  pub least : (j : ℕ) → j < k → 65535 < x / 2 ^ j

-- a number of 16 + k bits
cut : (x k : ℕ) → 0 < k → k ≤ 16 → x < 2 ^ (16 + k) → 2 ^ (15 + k) ≤ x → Cut x k
cut x k some at_most below above = record {
  some = some;
  at_most = at_most;
  fits = le_of_suc-le-suc (shr_lt 16 k below);
  least = λ j h. (le-div_iff_mul-le {x = 2 ^ 16} {y = x} (pow_pos j)).1 (le_trans (le_of_eq (sym (pow-add 2 16 j))) (le_trans (pow_mono {i = 16 + j} {j = 15 + k} (omega arith)) above));
}

pub top : (x : ℕ) → 65535 < x → x < 2 ^ 32 → Cut x (16 - count_leading_zeros 32 x)
top x long fits =
    let t = leading_top 32 x (omega arith) fits in
    let z : ℕ = count_leading_zeros 32 x in
    let m : ℕ = t.0 in
    let sixteen : 16 ≤ m = le_of_suc-le-suc (lt_of_not-le (λ (h : suc m ≤ 16). not-le_of_lt t.3 (le_trans (pow_mono h) long))) in
    cut x (16 - z) (omega (arith, t.1)) (omega arith)
    (subst (λ (n : ℕ). x < 2 ^ n) (omega (arith, t.1)) t.3)
    (subst (λ (n : ℕ). 2 ^ n ≤ x) (omega (arith, t.1)) t.2)

pub few_zeros : (x : ℕ) → 65535 < x → x < 2 ^ 32 → count_leading_zeros 32 x < 16
few_zeros x long fits = let some = (top x long fits).some in omega arith

-- what the code's quotient makes
module _ (reference frequency : ℕ) {whole : ℕ} (some : 0 < frequency) (is_whole : whole ≡ reference / frequency) where
  pub unscaled : whole ≤ 65535 → Right reference frequency (answered (record { prescaler_reg = None; interval_ticks = whole }))
  unscaled h =
      let once : ticks reference frequency 0 ≡ whole = sym (halved reference frequency 0) ∙ div-one (reference / frequency) ∙ sym is_whole in
      subst (λ (n : ℕ). Right reference frequency (answered (record { prescaler_reg = None; interval_ticks = n }))) once
      (Right.found 0 some (record { fits = rw once h; least = λ j l. absurd (not-suc-le-zero l) }) zero-le)

  after : (k : ℕ) → whole / 2 ^ k ≡ ticks reference frequency k
  after k = rw is_whole (halved reference frequency k)

  pub cut_right : {k : ℕ} → Cut whole k → Right reference frequency (answered (record { prescaler_reg = Some (k - 1); interval_ticks = whole / 2 ^ k }))
  cut_right {k = zero} c = absurd (lt_irrefl 0 c.some)
  cut_right {k = suc p} c =
      subst₂ (λ (v n : ℕ). Right reference frequency (answered (record { prescaler_reg = Some v; interval_ticks = n }))) (omega arith) (sym (after (suc p)))
      (Right.found (suc p) some (record { fits = rw (← (after (suc p))) c.fits; least = λ j l. rw (← (after j)) (c.least j l) }) c.at_most)

  pub scaled : 65535 < whole → whole < 2 ^ 32
      → Right reference frequency
      (answered (record {
        prescaler_reg = Some (16 - count_leading_zeros 32 whole - 1);
        interval_ticks = whole / 2 ^ (16 - count_leading_zeros 32 whole);
      }))
  scaled long fits = cut_right (top whole long fits)
