-- Which refusal is given where several hold, and what crystal 0 gives. Assumes nothing.
use mathlib.Core.Path.{◌≡◌, ◌∙◌, sym, ap}
use mathlib.Core.Bool.{true, false}
use mathlib.Core.List.{List, ◌∷◌, ◌++◌}
use Prim.Native.Nat.{ℕ, ◌/◌}
use native.Mathlib.Nat.{zero-div}
use lib.ListN.{length}
use Rattle.registers.specs.declared.PllType.{PllType}
use Rattle.registers.specs.declared.PllType.TheVariants.{Arm, Ddr, Io}
use Rattle.registers.specs.Words.{word, WORDS, ARM_PLL_CTRL, DDR_PLL_CTRL, IO_PLL_CTRL}
use Rattle.sources.specs.Clock.{Clock, frequency}
use Rattle.sources.specs.Source.{output_of}
use Rattle.sources.proofs.Laws.{no_crystal}
use Rattle.checks.specs.declared.Check.{Check}
use Rattle.checks.specs.Check.{broken, checks, first_of, overflows, reason, refusal}
use Rattle.checks.proofs.Laws.{Clear, first}
use Rattle.evaluation.specs.Evaluated.{evaluated}
use Rattle.evaluation.specs.Formulas.{outputs}
use Rattle.evaluation.proofs.Laws.{refuses}

-- of all the checks that are broken the first in document 01's order is told, whatever comes after it
pub first_told :
    (crystal : ℕ) (image : List ℕ) → length image ≡ WORDS →
    {before : List Check} → Clear (broken crystal image) before → (check : Check) (after : List Check) →
    checks ≡ before ++ (check ∷ after) → broken crystal image check ≡ true → evaluated crystal image ≡ refusal check
unfolding reason
first_told crystal image h clear check after split b =
    sym
    (refuses crystal image h
    (ap (first_of (broken crystal image)) split ∙ first (broken crystal image) clear check after b))

-- crystal 0 breaks no product check, and every clock that it gives is 0
pub dark_fits : (image : List ℕ) (w : ℕ) → overflows 0 image w ≡ false
dark_fits image w = rw (no_crystal (word image w))

dark_output : (image : List ℕ) (pll : PllType) → output_of (outputs 0 image) pll ≡ 0
dark_output image Arm = no_crystal (word image ARM_PLL_CTRL)
dark_output image Ddr = no_crystal (word image DDR_PLL_CTRL)
dark_output image Io = no_crystal (word image IO_PLL_CTRL)

pub dark : (image : List ℕ) (clock : Clock) → frequency (outputs 0 image) clock ≡ 0
dark image clock = ap (λ (n : ℕ). n / clock.product) (dark_output image clock.source) ∙ zero-div clock.product
