-- `desk::line::trimmed` meets its contract.
use mathlib.Core.Path.{◌∙◌}
use Rattle.desk.proofs.Lines.{returned, not_returned}
use Rattle.desk.proofs.line.trimmed.Goals as goal

pub returns-in-Some : goal.returns-in-Some
returns-in-Some c = c.in-Some.ensures.cases.1 ∙ returned c.args.line.now c.in-Some.ensures.cases.0

pub returns-in-None : goal.returns-in-None
returns-in-None c = not_returned c.args.line.now c.in-None.ensures.cases
