-- The laws by which evaluation's parts meet what specs/ says. Assumes nothing.
use mathlib.Core.Path.{◌≡◌, ◌∙◌, ap}
use mathlib.Core.Bool.{false}
use mathlib.Core.List.{List, []}
use Prim.Native.Nat.{ℕ, ◌/◌, ◌<◌}
use native.Mathlib.Nat.{div-div-eq-div-mul, mul-one}
use native.Mathlib.Omega.{arith}
use borrow.Author.Tests.{eq-eqb, ne_eqb}
use lib.ListN.{length, get_or}
use Rattle.refusals.specs.Told.{answered, refused}
use Rattle.refusals.specs.Number.{BAD_IMAGE}
use Rattle.fields.specs.Word.{read_field}
use Rattle.registers.specs.Fields.{DIVISOR}
use Rattle.registers.specs.Words.{WORDS}
use Rattle.sources.specs.declared.PllOutputs.{PllOutputs}
use Rattle.sources.specs.Clock.{frequency}
use Rattle.sources.specs.Source.{output_of, arm_source}
use Rattle.checks.specs.declared.Check.{Check}
use Rattle.std.proofs.Common.{Ok, Err}
use Rattle.checks.specs.Check.{broken, checks, overflows, reason, refusal, fits}
use Rattle.checks.proofs.Laws.{all_clear, holds}
use Rattle.evaluation.specs.Evaluated.{evaluated}
use Rattle.evaluation.specs.Formulas.{cpu, clocks_of}

-- q over k is the source over the divisor times k
module _ (out : PllOutputs) (control : ℕ) where
  pub q_over : (k : ℕ) {q : ℕ} → q ≡ frequency out (cpu control 1) → q / k ≡ frequency out (cpu control k)
  q_over k e =
      ap (λ (n : ℕ). n / k) (e ∙ ap (λ (d : ℕ). output_of out (arm_source control) / d) (mul-one (read_field control DIVISOR)))
      ∙ div-div-eq-div-mul (output_of out (arm_source control)) (read_field control DIVISOR) k

-- where no check is broken each PLL's output fits
module _ (crystal : ℕ) (image : List ℕ) (n : reason crystal image ≡ Ok tt) where
  unbroken : (k : ℕ) → k < 26 → (past : Check) → broken crystal image (get_or checks k past) ≡ false
  unfolding reason
  unbroken k h past = holds (broken crystal image) (all_clear (broken crystal image) checks n) k past h

  pub arm_fits : overflows crystal image 0 ≡ false
  unfolding broken
  arm_fits = unbroken 3 (omega arith) (fits 0)

  pub io_fits : overflows crystal image 2 ≡ false
  unfolding broken
  io_fits = unbroken 4 (omega arith) (fits 0)

  pub ddr_fits : overflows crystal image 1 ≡ false
  unfolding broken
  ddr_fits = unbroken 5 (omega arith) (fits 0)

-- the three ways out of evaluation
module _ (crystal : ℕ) (image : List ℕ) where
  pub bad_image : (length image ≡ WORDS → ⊥) → refused BAD_IMAGE [] ≡ evaluated crystal image
  unfolding evaluated
  bad_image h = simp (ne_eqb _ _ h)

  pub whole : length image ≡ WORDS → reason crystal image ≡ Ok tt → answered (clocks_of crystal image) ≡ evaluated crystal image
  unfolding evaluated
  whole h n = simp (eq-eqb _ _ h, n)

  pub refuses : {check : Check} → length image ≡ WORDS → reason crystal image ≡ Err check → refusal check ≡ evaluated crystal image
  unfolding evaluated
  refuses h n = simp (eq-eqb _ _ h, n)
