-- What a locked run of the PLL sequence leaves: the PLL in use, as evaluation has it.
use Rattle.std.specs.Prelude.{ℕ, ◌*◌, ◌≡◌, List, [], ◌∷◌, ◌++◌}
use Rattle.refusals.specs.Told.{answered}
use Rattle.fields.specs.Word.{read_field}
use Rattle.registers.specs.Fields.{BYPASS_FORCE, FDIV}
use Rattle.registers.specs.Plls.{pll_ctrl}
use Rattle.registers.specs.Words.{word}
use Rattle.sources.specs.Source.{output_of}
use Rattle.clocks.specs.declared.Clocks.{Clocks}
use Rattle.evaluation.specs.Evaluated.{evaluated}
use Rattle.clocks.specs.Whole.{outputs_in}
use Rattle.pll_rows.specs.declared.PllPlan.{PllPlan}
use Rattle.pll_rows.specs.Sequence.{Access, Log, a_write}

-- The last access of the run writes the PLL's control word with the force bit 0. So wherever an image that has this word is evaluated,
-- the PLL gives the crystal times this word's own FDIV.
pub record InUse (plan : PllPlan) (run : Log) : Type 0 where
  pub earlier : List Access
  pub last_word : ℕ
  pub last_access : run.accesses ≡ earlier ++ (a_write (pll_ctrl plan.pll) last_word ∷ [])
  pub released : read_field last_word BYPASS_FORCE ≡ 0
  pub multiplies : (crystal : ℕ) (image : List ℕ) (clocks : Clocks) → word image (pll_ctrl plan.pll) ≡ last_word →
      evaluated crystal image ≡ answered clocks → output_of (outputs_in clocks) plan.pll ≡ crystal * read_field last_word FDIV
