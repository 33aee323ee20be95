-- A test that antt computes, and that passes only for the best pair: for worked examples and tables of them. It takes one
-- second divisor of each row, its best, so that its cost goes by the number of rows.
-- Assumes nothing.
use Prim.Native.Nat.{ℕ, min, ◌+◌, ◌-◌, ◌*◌, ◌/◌, ◌≤◌, ◌<◌}
use mathlib.Core.Path.{◌≡◌, refl, subst}
use mathlib.Core.Bool.{Bool, true, false, not, ◌&&◌}
use native.Mathlib.Nat.{le_trans, mul-add, mul-one}
use native.Mathlib.Omega.{arith}
use lib.Dec.{T, leb, ltb, eqb, leb→le, ltb→lt, eqb→eq, nleb→lt, nltb→le}
use mir.Facts.{and_yes}
use Rattle.refusals.specs.Told.{answered}
use Rattle.nearness.specs.Distance.{distance, InRange}
use Rattle.nearness.proofs.Upto.{upto, within}
use Rattle.two_stage.specs.Best.{frequency, Best}
use Rattle.two_stage.specs.Answer.{Right, best}
use Rattle.nearness.specs.Found.{AtTurn}
use Rattle.nearness.specs.declared.Wanted.{Wanted}
use Rattle.nearness.proofs.Row.{smallest, greatest, ideal_wins, next_wins}
use Rattle.two_stage.proofs.Row.{second_rule}

abbrev pick : Bool → ℕ → ℕ → ℕ
pick true a b = a
pick false a b = b

pick_cases : (P : ℕ → Type 0) (test : Bool) {a b : ℕ} → (T test → P a) → (T (not test) → P b) → P (pick test a b)
pick_cases P true held failed = held tt
pick_cases P false held failed = failed tt

module _ (reference target largest : ℕ) where
  -- how far a pair is from the target
  abbrev far : ℕ → ℕ → ℕ
  far d0 d1 = distance (frequency reference d0 d1) target

  -- the best second divisor of a row, from the ideal one
  abbrev beside : ℕ → ℕ → ℕ
  beside d0 ideal =
      pick (leb ideal 0) 1
      (pick (leb largest ideal) largest
      (pick (ltb (target - frequency reference d0 (ideal + 1)) (frequency reference d0 ideal - target)) (ideal + 1) ideal))

  abbrev second : ℕ → ℕ
  second d0 = beside d0 (reference / target / d0)

  -- a row before that of the pair is farther, and a row after it no nearer
  abbrev row_test : ℕ → ℕ → ℕ → Bool
  row_test d0 d1 e0 = leb (far d0 d1 + min 1 (d0 - e0)) (far e0 (second e0))

  abbrev pub best_test : ℕ → ℕ → Bool
  best_test d0 d1 =
      ltb 0 target && (ltb 0 largest && (ltb 0 d0 && (leb d0 largest && (eqb d1 (second d0) && upto largest (row_test d0 d1)))))

  module _ (some_target : 0 < target) (some_largest : 0 < largest) where
    abbrev BestSecond : ℕ → ℕ → Type 0
    BestSecond d0 d1 = AtTurn (frequency reference d0) target largest d1 (far d0 d1)

    second_is_best : (d0 : ℕ) → 0 < d0 → BestSecond d0 (second d0)
    second_is_best d0 some =
        pick_cases (BestSecond d0) (leb ideal 0) (λ t. at_distance (smallest wanted some (omega (arith, leb→le ideal 0 t))))
        (λ one. pick_cases (BestSecond d0) (leb largest ideal) (λ t. at_distance (greatest wanted some (leb→le largest ideal t)))
        (λ room. pick_cases (BestSecond d0) (ltb under over)
        (λ t. at_distance (next_wins wanted some is_next (nleb→lt ideal 0 one) (nleb→lt largest ideal room) (ltb→lt under over t)))
        (λ t. at_distance (ideal_wins wanted some is_next (nleb→lt ideal 0 one) (nleb→lt largest ideal room) (nltb→le under over t)))))
      where
        wanted : Wanted
        wanted = record {
          reference = reference;
          target = target;
          firsts = largest;
          seconds = largest;
          ratio = reference / target;
          some_target = some_target;
          some_firsts = some_largest;
          some_seconds = some_largest;
          is_ratio = refl;
        }

        ideal : ℕ
        ideal = reference / target / d0

        under : ℕ
        under = target - frequency reference d0 (ideal + 1)

        over : ℕ
        over = frequency reference d0 ideal - target

        is_next : frequency reference d0 (ideal + 1) ≡ reference / (d0 * ideal + d0)
        is_next = simp (mul-add, mul-one)

        at_distance : {value : ℕ → ℕ} {d1 diff : ℕ} → AtTurn value target largest d1 diff
            → AtTurn value target largest d1 (distance (value d1) target)
        at_distance row = subst (AtTurn _ target largest _) row.is_diff row

    module _ {d0 d1 : ℕ} (range : InRange largest d0) (is_second : d1 ≡ second d0)
        (rows : (e0 : ℕ) → InRange largest e0 → far d0 d1 + min 1 (d0 - e0) ≤ far e0 (second e0)) where
      in_row : BestSecond d0 d1
      in_row = rw is_second (second_is_best d0 range.from_one)

      farther : (e0 e1 : ℕ) → InRange largest e0 → InRange largest e1 → far d0 d1 + min 1 (d0 - e0) ≤ far e0 e1
      farther e0 e1 r0 r1 = le_trans (rows e0 r0) ((second_is_best e0 r0.from_one).nearest.nothing_nearer e1 r1)

      is_best : Best reference target largest d0 d1
      is_best =
          record {
            nearest =
                record {
                  first_range = range;
                  second_range = in_row.nearest.second_range;
                  nothing_nearer = λ e0 e1 r0 r1. omega (arith, farther e0 e1 r0 r1);
                  smallest_first = λ e0 e1 r0 r1 same. omega (arith, farther e0 e1 r0 r1);
                };
            second = second_rule in_row;
          }

  pub sound : {d0 d1 : ℕ} → T (best_test d0 d1) → Right reference target largest (answered (record { div0 = d0; div1 = d1 }))
  sound {d0} {d1} t =
      let (t0, rest0) = and_yes (ltb 0 target) _ t in
      let (t1, rest1) = and_yes (ltb 0 largest) _ rest0 in
      let (t2, rest2) = and_yes (ltb 0 d0) _ rest1 in
      let (t3, rest3) = and_yes (leb d0 largest) _ rest2 in
      let (t4, rows) = and_yes (eqb d1 (second d0)) _ rest3 in
      let some_target = ltb→lt 0 target t0 in
      let some_largest = ltb→lt 0 largest t1 in
      best (record { div0 = d0; div1 = d1 }) some_target some_largest
      (is_best some_target some_largest
      (record { from_one = ltb→lt 0 d0 t2; to_largest = leb→le d0 largest t3 })
      (eqb→eq d1 (second d0) t4)
      (λ e0 r0. leb→le _ _ (within largest (row_test d0 d1) rows e0 r0)))
