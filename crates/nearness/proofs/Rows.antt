-- A search that goes row by row, one first divisor after the other: what it has after k rows is the nearest among the
-- first k. The laws of each step, and that all nearest pairs have one distance and one first divisor.
-- Assumes nothing.
use Prim.Native.Nat.{ℕ, ◌+◌, ◌≤◌, ◌<◌}
use mathlib.Core.Path.{◌≡◌, sym}
use mathlib.Core.Logic.{⊎_elim}
use native.Mathlib.Nat.{eq-or-lt_of_le, le_antisymm}
use native.Mathlib.Omega.{arith}
use Rattle.nearness.specs.Distance.{distance, InRange}
use Rattle.nearness.specs.Nearest.{NearestInRow, Nearest}
use Rattle.nearness.proofs.Distance.{le_or_lt}

module _ (value : ℕ → ℕ → ℕ) (target seconds : ℕ) where
  abbrev pub far : ℕ → ℕ → ℕ
  far d0 d1 = distance (value d0 d1) target

  -- the first row alone
  pub start : {d1 : ℕ} → NearestInRow (value 1) target seconds d1 → Nearest value target 1 seconds 1 d1
  start {d1} row =
      record {
        first_range = omega arith;
        second_range = row.second_range;
        nothing_nearer = λ e0 e1 r0 r1.
            let e : e0 ≡ 1 = omega arith in
            rw e (row.nothing_nearer e1 r1);
        smallest_first = λ e0 e1 r0 r1 same. r0.from_one;
      }

  -- the rows after k, up to firsts, have nothing nearer
  pub more : {k firsts d0 d1 : ℕ} → k ≤ firsts
      → ((e0 e1 : ℕ) → k < e0 → InRange firsts e0 → InRange seconds e1 → far d0 d1 ≤ far e0 e1)
      → Nearest value target k seconds d0 d1 → Nearest value target firsts seconds d0 d1
  more {k} l rest found =
      record {
        first_range = omega arith;
        second_range = found.second_range;
        nothing_nearer = λ e0 e1 r0 r1.
            ⊎_elim (λ le. found.nothing_nearer e0 e1 (omega arith) r1) (λ lt. rest e0 e1 lt r0 r1) (le_or_lt e0 k);
        smallest_first = λ e0 e1 r0 r1 same.
            ⊎_elim (λ le. found.smallest_first e0 e1 (omega arith) r1 same) (λ lt. omega arith) (le_or_lt e0 k);
      }

  -- the row after k has a nearer pair
  pub better : {k d0 d1 e1 : ℕ} → far (k + 1) e1 < far d0 d1
      → NearestInRow (value (k + 1)) target seconds e1
      → Nearest value target k seconds d0 d1 → Nearest value target (k + 1) seconds (k + 1) e1
  better {k} closer row found =
      record {
        first_range = omega arith;
        second_range = row.second_range;
        nothing_nearer = λ f0 f1 r0 r1.
            ⊎_elim (λ e. rw e (row.nothing_nearer f1 r1)) (λ lt. omega (arith, found.nothing_nearer f0 f1 (omega arith) r1))
            (eq-or-lt_of_le r0.to_largest);
        smallest_first = λ f0 f1 r0 r1 same.
            ⊎_elim (λ e. omega arith) (λ lt. omega (arith, found.nothing_nearer f0 f1 (omega arith) r1))
            (eq-or-lt_of_le r0.to_largest);
      }

  module _ {firsts d0 d1 e0 e1 : ℕ} (d : Nearest value target firsts seconds d0 d1) (e : Nearest value target firsts seconds e0 e1) where
    pub one_distance : far d0 d1 ≡ far e0 e1
    one_distance =
        le_antisymm (d.nothing_nearer e0 e1 e.first_range e.second_range) (e.nothing_nearer d0 d1 d.first_range d.second_range)

    pub one_first : d0 ≡ e0
    one_first =
        le_antisymm (d.smallest_first e0 e1 e.first_range e.second_range (sym one_distance))
        (e.smallest_first d0 d1 d.first_range d.second_range one_distance)
