-- One crystal and image have one result, and one thing is handed back. Assumes nothing.
use Prim.Native.Nat.{ℕ, ◌+◌, ◌*◌, ◌/◌, ◌%◌, ◌^◌, ◌<◌}
use mathlib.Core.Path.{◌≡◌, refl, sym, ap, ◌∙◌}
use mathlib.Core.List.{List}
use native.Mathlib.Decide.{dec_le}
use native.Mathlib.Omega.{arith}
use lib.ListN.{get_or, get_or-eq_default, length}
use Rattle.std.specs.Prelude.{Err}
use Rattle.refusals.specs.Refusal.{told as told_refusal}
use Rattle.refusals.specs.Told.{Told, answered}
use Rattle.handing.proofs.Unique.{Single, single, Settled, settled}
use Rattle.ratio_table.specs.declared.Ratio.{Ratio}
use Rattle.ratios.specs.declared.RatiosError.{RatiosError}
use Rattle.ratios.specs.declared.RatiosError.TheVariants.{Evaluation, ZeroClock}
use Rattle.ratios.specs.Checked.{Checks, Right, accepted, checked, fine, refusal_of, told}
use Rattle.ratios.specs.Checked as check
use Rattle.ratio_table.specs.Table.{Square}
use Rattle.ratios.proofs.Crystal.{small}
use Rattle.ratios.proofs.Laws.{ratios_of, unique}
use Rattle.c_clocks.proofs.Errors.{as_refusal as evaluation_refusal}
use Rattle.c_ratios.specs.Tells.{RatiosTells, TableOrRefusal, refusal, table, table_words}
use Rattle.c_ratios.proofs.Words.{at, words_long}

module _ (crystal : ℕ) (image : List ℕ) where
  one_result : Single (TableOrRefusal crystal image)
  one_result _ _ (table ok r) (table _ s) = ap answered (unique crystal image r s)
  one_result _ _ (table ok r) (refusal not_ok) = let e = sym ok ∙ not_ok in cc
  one_result _ _ (refusal not_ok) (table ok s) = let e = sym ok ∙ not_ok in cc
  one_result _ _ (refusal x) (refusal y) = let e = sym x ∙ y in cc

  pub one : Single (RatiosTells crystal image)
  one = single one_result

  pub ratios : Settled 32 (RatiosTells crystal image)
  ratios = settled one

  pub square : {t : List (List Ratio)} → checked crystal image ≡ answered fine → Right crystal image t → Square t
  square ok r = (ratios_of crystal image ok r).square

  -- every number of it has 32 bits, and far fewer
  pub low : {t : List (List Ratio)} → checked crystal image ≡ answered fine → Right crystal image t → (k : ℕ) → get_or (table_words t) k 0 < 2 ^ 32
  low {t} ok r k =
      elim (dec_le 32 k) [
        | yes past ↦ omega (arith, get_or-eq_default (table_words t) 0 {n = k} (omega (arith, words_long q)))
        | no inside ↦
            let m = k / 2 in
            let a = at q m (omega arith) in
            let s = small image crystal ok r (m / 4) (m % 4) (omega arith) (omega arith) in
            elim (dec_le (k % 2) 0) [
              | yes even ↦ omega (arith, s.0, a.0, ap (λ (n : ℕ). get_or (table_words t) n 0) (let e : 2 * m ≡ k = omega arith in e))
              | no odd ↦ omega (arith, s.1, a.1, ap (λ (n : ℕ). get_or (table_words t) n 0) (let e : 2 * m + 1 ≡ k = omega arith in e))
            ]
      ]
    where
      q : Square t
      q = square ok r

  -- what the check call tells, in these words
  pub table_or_refusal : {t : Told (List (List Ratio))} → Checks crystal image t → TableOrRefusal crystal image t
  table_or_refusal (check.ratios ok r) = table ok (accepted ok r)
  table_or_refusal (check.refusal not_ok) = refusal not_ok

  pub long : {t : List (List Ratio)} → TableOrRefusal crystal image (answered t) → length (table_words t) ≡ 32
  long (table ok r) = words_long (square ok r)

-- what is told of an error is what is told of the refusal that it is
pub as_refusal : (e : RatiosError) → told (Err e) ≡ told_refusal (Err (refusal_of e))
as_refusal (Evaluation error) = evaluation_refusal error
as_refusal ZeroClock = refl
