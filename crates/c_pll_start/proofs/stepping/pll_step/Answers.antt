-- `c_pll_start::stepping::pll_step` meets its contract. Assumes nothing.
use mathlib.Core.Path.{◌∙◌}
use Rattle.c_pll_start.proofs.Stepped.{in_sequence}
use Rattle.c_pll_start.proofs.stepping.pll_step.Goals as goal

pub returns-in-Some : goal.returns-in-Some
returns-in-Some c = c.go.ensures ∙ in_sequence c.args.run c.args.word c.in-Some.ensures
