-- A test that computes whether what the I2C search tells is right, for tables of cases: it tries all 256 pairs, and where it passes it
-- proves the rule.
-- Assumes nothing.
use mathlib.Core.Path.{◌≡◌, sym, subst}
use mathlib.Core.Bool.{Bool, false, ◌&&◌}
use mathlib.Core.List.{[], ◌∷◌}
use Prim.Native.Nat.{ℕ, min, ◌+◌, ◌-◌, ◌*◌, ◌≤◌}
use native.Mathlib.Nat.{add-sub_cancel, le_trans, le-add_right}
use native.Mathlib.Omega.{arith}
use lib.Dec.{T, leb, ltb, eqb, leb→le, ltb→lt, eqb→eq}
use Rattle.tables.proofs.Table.{both}
use Rattle.refusals.specs.Told.{Told, answered, refused}
use Rattle.refusals.specs.Number.{SPEED}
use Rattle.nearness.specs.Distance.{distance, InRange}
use Rattle.nearness.proofs.Upto.{upto, within}
use Rattle.i2c.specs.Divisors.{calculation, clock, Best, Right}
use Rattle.i2c.specs.declared.Speed.{Speed}
use Rattle.i2c.specs.declared.ClockConfig.{ClockConfig}

-- `distance`, in a form that computes everywhere
abbrev pub apart : ℕ → ℕ → ℕ
apart m n = (m - n) + (n - m)

-- what is farther for each smaller n, and is not farther, has no smaller n
not_after : (m n : ℕ) {d e : ℕ} → d + min 1 (m - n) ≤ e → e ≡ d → m ≤ n
not_after m n l same = omega arith

module _ (input target a b : ℕ) where
  abbrev pub off : ℕ → ℕ → ℕ
  off e0 e1 = apart (clock input e0 e1) target

  -- a pair with a smaller e0 is farther, and any other no nearer
  abbrev pub no_better : ℕ → ℕ → Bool
  no_better e0 e1 = leb (off a b + min 1 (a - e0)) (off e0 e1)

  abbrev pub no_better_pair : Bool
  no_better_pair = upto 4 (λ e0. upto 64 (no_better e0))

  -- in the row of a, a smaller e is farther
  abbrev pub no_smaller : ℕ → Bool
  no_smaller e = leb (off a b + min 1 (b - e)) (off a e)

  best_sound : InRange 4 a → InRange 64 b → T no_better_pair → T (upto 64 no_smaller) → Best input target a b
  unfolding distance
  best_sound range_a range_b pairs seconds = record {
    nearest = record {
      first_range = range_a;
      second_range = range_b;
      nothing_nearer = λ e0 e1 r0 r1. le_trans (le-add_right (off a b) _) (pair e0 e1 r0 r1);
      smallest_first = λ e0 e1 r0 r1 same. not_after a e0 (pair e0 e1 r0 r1) same;
    };
    smallest_second = λ e r same. not_after b e (leb→le _ _ (within 64 no_smaller seconds e r)) same;
  }
    where
      pair : (e0 e1 : ℕ) → InRange 4 e0 → InRange 64 e1 → off a b + min 1 (a - e0) ≤ off e0 e1
      pair e0 e1 r0 r1 = leb→le _ _ (within 64 (no_better e0) (within 4 (λ e. upto 64 (no_better e)) pairs e0 r0) e1 r1)

-- raw values x, y are those of the best pair, x + 1 and y + 1
abbrev pub best : ℕ → ℕ → ℕ → ℕ → Bool
best input target x y =
    (leb x 3 && leb y 63) && (no_better_pair input target (x + 1) (y + 1) && upto 64 (no_smaller input target (x + 1) (y + 1)))

abbrev pub test : ℕ → Speed → Told ClockConfig → Bool
test input speed (refused number []) = ltb (5632 * calculation speed) input && eqb number SPEED
test input speed (refused number (carried ∷ more)) = false
test input speed (answered c) = leb input (5632 * calculation speed) && best input (calculation speed) c.div_a c.div_b

raw_sound : (input target x y : ℕ) → T (best input target x y) → Best input target (x + 1) (y + 1)
raw_sound input target x y t =
    let all = both (leb x 3 && leb y 63) _ t in
    let ranges = both (leb x 3) (leb y 63) all.0 in
    let tests = both (no_better_pair input target (x + 1) (y + 1)) _ all.1 in
    let few_x = leb→le x 3 ranges.0 in
    let few_y = leb→le y 63 ranges.1 in
    best_sound input target (x + 1) (y + 1) (omega arith) (omega arith) tests.0 tests.1

pub sound : (input : ℕ) (speed : Speed) (tells : Told ClockConfig) → T (test input speed tells) → Right input speed tells
sound input speed (refused number []) t =
    let parts = both (ltb (5632 * calculation speed) input) (eqb number SPEED) t in
    subst (λ (n : ℕ). Right input speed (refused n [])) (sym (eqb→eq number SPEED parts.1)) (Right.not_attainable (ltb→lt _ _ parts.0))
sound input speed (refused number (carried ∷ more)) t = absurd t
sound input speed (answered c) t =
    let parts = both (leb input (5632 * calculation speed)) (best input (calculation speed) c.div_a c.div_b) t in
    subst (Right input speed)
    (λ i. answered (record { div_a = add-sub_cancel c.div_a 1 i; div_b = add-sub_cancel c.div_b 1 i }))
    (Right.found (c.div_a + 1) (c.div_b + 1) (leb→le _ _ parts.0) (raw_sound input (calculation speed) c.div_a c.div_b parts.1))
