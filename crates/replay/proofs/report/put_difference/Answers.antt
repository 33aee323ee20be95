-- `replay::report::put_difference` meets its contract.
use native.Mathlib.Omega.{arith}
use Rattle.replay.proofs.Printing.{behind, not_behind}
use Rattle.replay.proofs.report.put_difference.Goals as goal

pub returns-then-first-second : goal.returns-then-first-second
returns-then-first-second c = behind c.args.first c.args.second (omega arith) c.put_line.ensures

pub returns-else-first-second : goal.returns-else-first-second
returns-else-first-second c = not_behind c.args.first c.args.second (omega arith) c.put_line-else-first-second.ensures
