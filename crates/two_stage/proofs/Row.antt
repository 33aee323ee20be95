-- The pair that the search of crate nearness finds is the best one: its place in its row settles the second divisor on a tie.
-- Assumes nothing.
use Prim.Native.Nat.{ℕ}
use mathlib.Core.Logic.{⊎_elim}
use native.Mathlib.Omega.{arith}
use Rattle.nearness.specs.Found.{AtTurn, Found}
use Rattle.nearness.proofs.Distance.{le_or_lt}
use Rattle.two_stage.specs.Best.{frequency, SecondRule, Best}

pub second_rule : {value : ℕ → ℕ} {target largest d1 diff : ℕ} → AtTurn value target largest d1 diff → SecondRule value target largest d1
second_rule {value} {target} {d1 = d1} row =
    record {
      if_any_not_below = λ e r same not_below.
          ⊎_elim (λ reaches. (reaches, row.last reaches e r not_below))
          (λ below. absurd (omega (arith, row.nearer below e r not_below)))
          (le_or_lt target (value d1));
      else_smallest = λ e r same below.
          ⊎_elim (λ reaches. absurd (omega (arith, row.nearer below e r reaches)))
          (λ too. row.first below e r too)
          (le_or_lt target (value e));
    }

pub best_pair : {reference target largest d0 d1 : ℕ} → Found (frequency reference) target largest largest d0 d1
    → Best reference target largest d0 d1
best_pair found = record { nearest = found.nearest; second = second_rule found.row }
