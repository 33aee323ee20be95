-- The contract settles the answer: there is one best pair, and so one right answer.
-- Assumes nothing.
use Prim.Native.Nat.{ℕ, ◌<◌}
use mathlib.Core.Path.{◌≡◌, refl, sym, ◌∙◌, ap}
use mathlib.Core.Logic.{⊎_elim}
use native.Mathlib.Nat.{le_antisymm, lt_of_not-le, not-le_of_lt}
use native.Mathlib.Omega.{arith}
use mathlib.Core.Bool.{true, false}
use lib.Dec.{eqb}
use Rattle.std.specs.Prelude.{Result, Ok, Err}
use Rattle.refusals.specs.Told.{Told, answered, refused}
use Rattle.refusals.specs.Number.{ZERO_TARGET}
use Rattle.nearness.specs.Distance.{distance, InRange}
use Rattle.nearness.proofs.Distance.{le_or_lt}
use Rattle.nearness.proofs.Rows.{one_distance, one_first}
use Rattle.two_stage.specs.declared.DivisorPair.{DivisorPair}
use Rattle.two_stage.specs.declared.TwoStageError.{TwoStageError}
use Rattle.two_stage.specs.declared.TwoStageError.TheVariants.{ZeroTarget, BadMax}
use Rattle.two_stage.specs.Best.{frequency, SecondRule, Best}
use Rattle.two_stage.specs.Answer.{told, Right, no_target, no_largest, best}

module _ {value : ℕ → ℕ} {target largest d1 e1 : ℕ} (d_range : InRange largest d1) (e_range : InRange largest e1)
    (d : SecondRule value target largest d1) (e : SecondRule value target largest e1)
    (near : distance (value d1) target ≡ distance (value e1) target) where
  one_second : d1 ≡ e1
  one_second =
      ⊎_elim
      (λ reaches.
      let both = e.if_any_not_below d1 d_range near reaches in
      le_antisymm both.1 (d.if_any_not_below e1 e_range (sym near) both.0).1)
      (λ misses.
      let misses_too : value e1 < target = lt_of_not-le (λ h. not-le_of_lt misses (d.if_any_not_below e1 e_range (sym near) h).0) in
      le_antisymm (d.else_smallest e1 e_range (sym near) misses) (e.else_smallest d1 d_range near misses_too))
      (le_or_lt target (value d1))

module _ {reference target largest : ℕ} where
  module _ {d0 d1 e0 e1 : ℕ} (d : Best reference target largest d0 d1) (e : Best reference target largest e0 e1) where
    pub same_first : d0 ≡ e0
    same_first = one_first (frequency reference) target largest d.nearest e.nearest

    pub same_second : d1 ≡ e1
    same_second =
        one_second d.nearest.second_range e.nearest.second_range d.second (rw same_first e.second)
        (one_distance (frequency reference) target largest d.nearest e.nearest
        ∙ ap (λ n. distance (frequency reference n e1) target) (sym same_first))

  pub same_pair : {p q : DivisorPair} → Best reference target largest p.div0 p.div1 → Best reference target largest q.div0 q.div1 → p ≡ q
  same_pair p q = λ i. record { div0 = same_first p q i; div1 = same_second p q i }

  pub unique : {a b : Told DivisorPair} → Right reference target largest a → Right reference target largest b → a ≡ b
  unique (no_target z) (no_target _) = refl
  unique (no_target z) (no_largest t _) = absurd (omega arith)
  unique (no_target z) (best _ t _ _) = absurd (omega arith)
  unique (no_largest t _) (no_target z) = absurd (omega arith)
  unique (no_largest _ _) (no_largest _ _) = refl
  unique (no_largest _ z) (best _ _ l _) = absurd (omega arith)
  unique (best _ t _ _) (no_target z) = absurd (omega arith)
  unique (best _ _ l _) (no_largest _ z) = absurd (omega arith)
  unique (best p _ _ bp) (best q _ _ bq) = ap answered (same_pair bp bq)

-- back from what is told to the answer or the error
abbrev untold : Told DivisorPair → Result DivisorPair TwoStageError
untold (answered pair) = Ok pair
untold (refused n numbers) = elim (eqb n ZERO_TARGET) [ true ↦ Err ZeroTarget | false ↦ Err BadMax ]

untold_told : (r : Result DivisorPair TwoStageError) → untold (told r) ≡ r
untold_told (Ok pair) = refl
untold_told (Err ZeroTarget) = refl
untold_told (Err BadMax) = refl

pub same_answer : {reference target largest : ℕ} {r s : Result DivisorPair TwoStageError}
    → Right reference target largest (told r) → Right reference target largest (told s) → r ≡ s
same_answer {r} {s} p q = sym (untold_told r) ∙ ap untold (unique p q) ∙ untold_told s
