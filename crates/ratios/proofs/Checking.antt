-- What the check call tells, from what evaluation tells. Assumes nothing.
use Prim.Native.Nat.{ℕ, zero, suc, ◌<◌}
use mathlib.Core.Path.{◌≡◌, refl, sym, ap, subst, ◌∙◌}
use mathlib.Core.Bool.{Bool, true, false}
use mathlib.Core.List.{List, []}
use native.Mathlib.Omega.{arith}
use lib.Dec.{eqb}
use lib.ListN.{length}
use Rattle.std.specs.Prelude.{Result, Ok, Err}
use Rattle.std.specs.Result.{result_unwrap_or}
use Rattle.refusals.specs.Told.{Told, answered, refused}
use Rattle.refusals.specs.Number.{BAD_IMAGE, ZERO_CLOCK}
use Rattle.registers.specs.Words.{WORDS}
use Rattle.clocks.specs.declared.Clocks.{Clocks}
use Rattle.checks.specs.Check.{Reason, reason}
use Rattle.evaluation.specs.declared.ClockReadError.{ClockReadError}
use Rattle.evaluation.specs.declared.ClockReadError.TheVariants.{BadImage, DivisorZero, Overflow}
use Rattle.evaluation.specs.Evaluated.{evaluated, judged, pick_told, told_error}
use Rattle.evaluation.specs.Formulas.{clocks_of}
use Rattle.clocks.specs.Whole.{outputs_in}
use Rattle.ratio_table.specs.declared.Ratio.{Ratio}
use Rattle.ratio_table.specs.Table.{Mirrored, Runs, none}
use Rattle.ratio_table.proofs.Entries.{whole}
use Rattle.ratios.specs.declared.RatiosError.{RatiosError}
use Rattle.ratios.specs.declared.RatiosError.TheVariants.{Evaluation, ZeroClock}
use Rattle.ratios.specs.Checked.{Checks, Fine, Right, accepted, checked, clock_at, fine, ratios, refusal, rejected, then_zero_clock, told}
use Rattle.ratios.specs.PlClocks.{pl_clock}
use Rattle.ratios.proofs.Running.{runs}

module _ (crystal : ℕ) (image : List ℕ) where
  pub refused_first : (e : ClockReadError) → told_error {A = Clocks} e ≡ evaluated crystal image → told_error {A = Fine} e ≡ checked crystal image
  unfolding checked
  refused_first BadImage h = ap (then_zero_clock crystal) h
  refused_first (DivisorZero id) h = ap (then_zero_clock crystal) h
  refused_first (Overflow id) h = ap (then_zero_clock crystal) h

  pub then_zero : {c : Clocks} → answered c ≡ evaluated crystal image → crystal ≡ 0 → refused ZERO_CLOCK [] ≡ checked crystal image
  unfolding checked
  then_zero {c} h z = ap (λ (n : ℕ). then_zero_clock n (answered c)) (sym z) ∙ ap (then_zero_clock crystal) h

  pub then_fine : {c : Clocks} → answered c ≡ evaluated crystal image → (crystal ≡ 0 → ⊥) → answered fine ≡ checked crystal image
  unfolding checked
  then_fine {c} h n = not_zero crystal n ∙ ap (then_zero_clock crystal) h
    where
      not_zero : (n : ℕ) → (n ≡ 0 → ⊥) → answered fine ≡ then_zero_clock n (answered c)
      not_zero zero f = absurd (f refl)
      not_zero (suc n) f = refl

  -- what evaluation answers is the clocks, and no check is broken
  pub evaluates : {c : Clocks} → evaluated crystal image ≡ answered c → (reason crystal image ≡ Ok tt) × (c ≡ clocks_of crystal image)
  unfolding evaluated
  evaluates {c} h = by (eqb (length image) WORDS) (reason crystal image) refl h
    where
      by : (b : Bool) (r : Reason) → reason crystal image ≡ r → pick_told b (judged r (answered (clocks_of crystal image))) (refused BAD_IMAGE []) ≡ answered c →
          (reason crystal image ≡ Ok tt) × (c ≡ clocks_of crystal image)
      by true (Ok _) q e = (q, cc)
      by true (Err check) q e = absurd (cc)
      by false r q e = absurd (cc)

  -- what the check call accepts, evaluation answers, and every clock runs
  pub accepted_runs : checked crystal image ≡ answered fine → (i : ℕ) → i < 4 → Runs (clock_at crystal image i)
  unfolding checked
  accepted_runs h = by crystal (evaluated crystal image) refl refl h
    where
      by : (n : ℕ) (t : Told Clocks) → crystal ≡ n → evaluated crystal image ≡ t → then_zero_clock n t ≡ answered fine →
          (i : ℕ) → i < 4 → Runs (clock_at crystal image i)
      by n (refused number carried) e q h = absurd (cc)
      by zero (answered c) e q h = absurd (cc)
      by (suc n) (answered c) e q h = runs crystal image (evaluates q).0 (omega (arith, e))

  -- the ways out of the check call: then_zero, and these
  pub by_error : (e : ClockReadError) → told_error {A = Clocks} e ≡ evaluated crystal image → Checks crystal image (told_error e)
  by_error BadImage h = refusal (sym (refused_first BadImage h))
  by_error (DivisorZero id) h = refusal (sym (refused_first (DivisorZero id) h))
  by_error (Overflow id) h = refusal (sym (refused_first (Overflow id) h))

  pub by_table : {c : Clocks} {t : List (List Ratio)} → answered c ≡ evaluated crystal image → (crystal ≡ 0 → ⊥) →
      Mirrored (pl_clock (outputs_in c) image 0) (pl_clock (outputs_in c) image 1) (pl_clock (outputs_in c) image 2) (pl_clock (outputs_in c) image 3) t →
      Checks crystal image (answered t)
  by_table {t = t} h n m =
      let ok = sym (then_fine h n) in
      ratios ok (whole (clock_at crystal image) (accepted_runs ok)
      (subst (λ (k : Clocks). Mirrored (pl_clock (outputs_in k) image 0) (pl_clock (outputs_in k) image 1) (pl_clock (outputs_in k) image 2) (pl_clock (outputs_in k) image 3) t) (evaluates (sym h)).1 m))

  -- and from there to a table in any case
  pub in_any_case : (r : Result (List (List Ratio)) RatiosError) → Checks crystal image (told r) → Right crystal image (result_unwrap_or r none)
  in_any_case (Ok t) (ratios ok r) = accepted ok r
  in_any_case (Err (Evaluation BadImage)) (refusal not_ok) = rejected not_ok
  in_any_case (Err (Evaluation (DivisorZero id))) (refusal not_ok) = rejected not_ok
  in_any_case (Err (Evaluation (Overflow id))) (refusal not_ok) = rejected not_ok
  in_any_case (Err ZeroClock) (refusal not_ok) = rejected not_ok
