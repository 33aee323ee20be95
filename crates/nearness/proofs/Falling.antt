-- A frequency that falls as the divisor grows turns at one place: up to it the target is reached, and past it no more.
-- So the nearest is the last that reaches the target or the first that does not.
-- Assumes nothing.
use Prim.Native.Nat.{ℕ, ◌+◌, ◌*◌, ◌/◌, ◌≤◌, ◌<◌}
use mathlib.Core.Path.{◌≡◌, ◌∙◌, ap}
use mathlib.Core.Logic.{◌↔◌, ⊎_elim}
use native.Mathlib.Nat.{le-div_iff_mul-le, mul_comm, mul-pos, mul-le-mul_left, div-mul-le_self, le_trans, not-le_of_lt, lt_of_not-le}
use native.Mathlib.Omega.{arith}
use Rattle.nearness.specs.Distance.{distance, InRange}
use Rattle.nearness.specs.Nearest.{NearestInRow}
use Rattle.nearness.proofs.Distance.{farther_over, farther_under, le_or_lt}

-- from divisor 1 on, a larger divisor gives no higher value
pub record Falling (value : ℕ → ℕ) : Type 0 where
  pub falls : (d e : ℕ) → 1 ≤ d → d ≤ e → value e ≤ value d

-- `last` is the last divisor whose value is not below the target, or 0 where there is none
pub record Turn (value : ℕ → ℕ) (target last : ℕ) : Type 0 where
  pub reached : (e : ℕ) → 1 ≤ e → e ≤ last → target ≤ value e
  pub missed : (e : ℕ) → last < e → value e < target

module _ {value : ℕ → ℕ} (falling : Falling value) (target : ℕ) where
  -- up to a divisor that reaches the target none is nearer
  pub before : (d e : ℕ) → target ≤ value d → 1 ≤ e → e ≤ d → distance (value d) target ≤ distance (value e) target
  before d e h one l = farther_over target (value d) (value e) h (falling.falls e d one l)

  -- from a divisor that does not exceed the target none is nearer
  pub after : (d e : ℕ) → value d ≤ target → 1 ≤ d → d ≤ e → distance (value d) target ≤ distance (value e) target
  after d e h one l = farther_under target (value d) (value e) h (falling.falls d e one l)

  -- a divisor that reaches the target is the nearest, if the next one, where there is one, does not and is no nearer
  pub over_nearest : {seconds d : ℕ} → InRange seconds d → target ≤ value d
      → (d < seconds → value (d + 1) ≤ target) → (d < seconds → distance (value d) target ≤ distance (value (d + 1)) target)
      → NearestInRow value target seconds d
  over_nearest {seconds} {d} range reaches misses no_nearer =
      record {
        second_range = range;
        nothing_nearer = λ e r.
            ⊎_elim (λ le. before d e reaches r.from_one le)
            (λ lt. le_trans (no_nearer (omega arith)) (after (d + 1) e (misses (omega arith)) (omega arith) (omega arith)))
            (le_or_lt e d);
      }

  -- a divisor that does not exceed the target is the nearest, if the one before, where there is one, reaches it and is no nearer
  pub under_nearest : {seconds : ℕ} (d : ℕ) → InRange seconds (d + 1) → value (d + 1) ≤ target
      → (1 ≤ d → target ≤ value d) → (1 ≤ d → distance (value (d + 1)) target ≤ distance (value d) target)
      → NearestInRow value target seconds (d + 1)
  under_nearest d range misses reaches no_nearer =
      record {
        second_range = range;
        nothing_nearer = λ e r.
            ⊎_elim (λ le. le_trans (no_nearer (omega arith)) (before d e (reaches (omega arith)) r.from_one le))
            (λ lt. after (d + 1) e misses (omega arith) (omega arith))
            (le_or_lt e d);
      }

-- a larger divisor gives no larger quotient
pub quotient_falls : (n : ℕ) {p q : ℕ} → 0 < p → p ≤ q → n / q ≤ n / p
quotient_falls n {q = q} some le = (le-div_iff_mul-le some).1 (le_trans (mul-le-mul_left (n / q) le) (div-mul-le_self n q))

-- the frequency of a row: a reference over c times the divisor
module _ (reference : ℕ) {c : ℕ} (c_pos : 0 < c) where
  pub row_falling : Falling (λ e. reference / (c * e))
  row_falling = record { falls = λ d e one l. quotient_falls reference (mul-pos c_pos one) (mul-le-mul_left c l) }

  regroup : (target e : ℕ) → e * c * target ≡ target * (c * e)
  regroup target e = mul_comm (e * c) target ∙ ap (λ (n : ℕ). target * n) (mul_comm e c)

  reaches : {target e : ℕ} → 0 < target → 0 < e → (e ≤ reference / target / c) ↔ (target ≤ reference / (c * e))
  reaches {target} {e} t_pos one = (
    (λ l. (le-div_iff_mul-le (mul-pos c_pos one)).1 (rw regroup at ((le-div_iff_mul-le t_pos).0 ((le-div_iff_mul-le c_pos).0 l)))),
    (λ l. (le-div_iff_mul-le c_pos).1 ((le-div_iff_mul-le t_pos).1 (rw regroup ((le-div_iff_mul-le (mul-pos c_pos one)).0 l)))),
  )

  pub row_turn : {target : ℕ} → 0 < target → Turn (λ e. reference / (c * e)) target (reference / target / c)
  row_turn t_pos =
      record {
        reached = λ e one l. (reaches t_pos one).0 l;
        missed = λ e l. lt_of_not-le (λ h. not-le_of_lt l ((reaches t_pos (omega arith)).1 h));
      }
