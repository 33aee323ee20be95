-- `replay::report::put_fault` meets its contract.
use native.Mathlib.Omega.{arith}
use Rattle.bounds.proofs.Bound.{kept}
use Rattle.replay.proofs.Printing.{too_long, unfinished, unreadable}
use Rattle.replay.proofs.report.put_fault.Goals as goal

pub returns-in-TooLong : goal.returns-in-TooLong
returns-in-TooLong c = kept (omega arith) (too_long c.put_bytes.result c.in-TooLong.is (omega arith) c.put_bytes.ensures)

pub returns-in-Unfinished : goal.returns-in-Unfinished
returns-in-Unfinished c = kept (omega arith) (unfinished c.put_line.result c.in-Unfinished.n c.in-Unfinished.is c.put_line.ensures)

pub returns-in-Unreadable : goal.returns-in-Unreadable
returns-in-Unreadable c =
    kept (omega arith) (unreadable c.put_line-in-Unreadable.result c.in-Unreadable.n c.in-Unreadable.is c.put_line-in-Unreadable.ensures)
