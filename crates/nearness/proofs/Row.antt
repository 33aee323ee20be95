-- The nearest of one row. For any falling value it is the last divisor that reaches the target or the first that does not; then, at the
-- row's own frequency, the facts that the code asks on the way.
-- Assumes nothing.
use Prim.Native.Nat.{ℕ, ◌+◌, ◌-◌, ◌*◌, ◌/◌, ◌≤◌, ◌<◌}
use mathlib.Core.Path.{◌≡◌, ◌∙◌, sym, subst}
use mathlib.Core.Logic.{⊎_elim}
use native.Mathlib.Nat.{mul-one, mul-add, mul-pos, le_trans, le-div_iff_mul-le}
use native.Mathlib.Omega.{arith}
use Rattle.nearness.specs.Distance.{distance, InRange}
use Rattle.nearness.specs.Found.{AtTurn}
use Rattle.nearness.specs.declared.Wanted.{Wanted}
use Rattle.nearness.proofs.Distance.{over, under, le_or_lt}
use Rattle.nearness.proofs.Falling.{Falling, Turn, before, over_nearest, under_nearest, row_falling, row_turn}

module _ {value : ℕ → ℕ} (falling : Falling value) (target : ℕ) where
  -- a divisor that reaches the target, where the next one does not and is no nearer, if there is a next
  pub reaching : {seconds : ℕ} (d : ℕ) → InRange seconds d → target ≤ value d
      → (d < seconds → (value (d + 1) < target) × (value d - target ≤ target - value (d + 1)))
      → AtTurn value target seconds d (value d - target)
  reaching d range reaches next =
      record {
        nearest =
            over_nearest falling target range reaches (λ lt. omega (arith, next lt))
            (λ lt. omega (arith, next lt, over (value d) target reaches, under (value (d + 1)) target (omega (arith, next lt))));
        last = λ _ e r not_below.
            ⊎_elim (λ le. le) (λ lt. omega (arith, falling.falls (d + 1) e (omega arith) (omega arith), next (omega arith))) (le_or_lt e d);
        first = λ below e r too. absurd (omega arith);
        nearer = λ below e r not_below. absurd (omega arith);
        is_diff = omega (arith, over (value d) target reaches);
      }

  -- a divisor that does not reach the target, where the one before does and is farther, if there is one before
  module _ {seconds : ℕ} (d : ℕ) (range : InRange seconds (d + 1)) (misses : value (d + 1) < target)
      (previous : 1 ≤ d → (target ≤ value d) × (target - value (d + 1) < value d - target)) where
    earlier_farther : (e : ℕ) → 1 ≤ e → e ≤ d → distance (value (d + 1)) target < distance (value e) target
    earlier_farther e one le =
        let reaches = (previous (omega arith)).0 in
        let closer = (previous (omega arith)).1 in
        omega (arith, before falling target d e reaches one le, over (value d) target reaches, under (value (d + 1)) target (omega arith))

    pub missing : AtTurn value target seconds (d + 1) (target - value (d + 1))
    missing =
        record {
          nearest =
              under_nearest falling target d range (omega arith) (λ one. (previous one).0)
              (λ one. omega (arith, earlier_farther d one (omega arith)));
          last = λ reaches e r not_below. absurd (omega arith);
          first = λ _ e r below.
              ⊎_elim (λ le. omega (arith, falling.falls e d r.from_one le, previous (omega arith))) (λ lt. omega arith) (le_or_lt e d);
          nearer = λ _ e r not_below.
              ⊎_elim (λ le. earlier_farther e r.from_one le)
              (λ lt. omega (arith, falling.falls (d + 1) e (omega arith) (omega arith)))
              (le_or_lt e d);
          is_diff = omega (arith, under (value (d + 1)) target (omega arith));
        }

-- the row of the first divisor d0. Its ideal second divisor is ratio / d0
module _ (s : Wanted) {d0 : ℕ} (some_first : 0 < d0) where
  abbrev value : ℕ → ℕ
  value = λ d1. s.reference / (d0 * d1)

  falling : Falling value
  falling = row_falling s.reference some_first

  turn : Turn value s.target (s.ratio / d0)
  turn = subst (λ n. Turn value s.target (n / d0)) (sym s.is_ratio) (row_turn s.reference some_first s.some_target)

  pub some_product : {d1 : ℕ} → 1 ≤ d1 → 0 < d0 * d1
  some_product one = mul-pos some_first one

  -- up to the ideal one the target is reached, so that the product is within the reference
  pub reaches : {d1 : ℕ} → 1 ≤ d1 → d1 ≤ s.ratio / d0 → s.target ≤ s.reference / (d0 * d1)
  reaches {d1} one le = turn.reached d1 one le

  pub within : {d1 : ℕ} → 1 ≤ d1 → d1 ≤ s.ratio / d0 → d0 * d1 ≤ s.reference
  within {d1} one le = omega (arith, (le-div_iff_mul-le (some_product one)).0 (le_trans s.some_target (reaches one le)))

  -- where no divisor reaches the target
  pub low : s.ratio / d0 ≡ 0 → s.reference / d0 < s.target
  low none = rw mul-one at (turn.missed 1 (omega arith))

  pub smallest : s.ratio / d0 ≡ 0 → AtTurn value s.target s.seconds 1 (s.target - s.reference / d0)
  smallest none =
      subst (λ n. AtTurn value s.target s.seconds 1 (s.target - s.reference / n)) (mul-one d0)
      (missing falling s.target 0 (omega arith) (turn.missed 1 (omega arith)) (λ one. omega arith))

  -- where each divisor reaches it
  pub greatest : s.seconds ≤ s.ratio / d0 → AtTurn value s.target s.seconds s.seconds (s.reference / (d0 * s.seconds) - s.target)
  greatest le = reaching falling s.target s.seconds (omega arith) (reaches s.some_seconds le) (λ lt. omega arith)

  -- where the ideal one reaches it and the next, with the frequency f, does not
  module _ {f : ℕ} (is_next : f ≡ s.reference / (d0 * (s.ratio / d0) + d0)) where
    next : f ≡ value (s.ratio / d0 + 1)
    next = is_next ∙ simp (mul-add, mul-one)

    pub misses : f < s.target
    misses = rw next (turn.missed (s.ratio / d0 + 1) (omega arith))

    module _ (one : 1 ≤ s.ratio / d0) (lt : s.ratio / d0 < s.seconds) where
      pub ideal_wins : value (s.ratio / d0) - s.target ≤ s.target - f
          → AtTurn value s.target s.seconds (s.ratio / d0) (value (s.ratio / d0) - s.target)
      ideal_wins no_nearer =
          reaching falling s.target (s.ratio / d0) (omega arith) (reaches one (omega arith)) (λ _. rw (← next) (misses, no_nearer))

      pub next_wins : s.target - f < value (s.ratio / d0) - s.target → AtTurn value s.target s.seconds (s.ratio / d0 + 1) (s.target - f)
      next_wins nearer =
          subst (λ n. AtTurn value s.target s.seconds (s.ratio / d0 + 1) (s.target - n)) (sym next)
          (missing falling s.target (s.ratio / d0) (omega arith) (rw (← next) misses) (λ _. (reaches one (omega arith), rw (← next) nearer)))
