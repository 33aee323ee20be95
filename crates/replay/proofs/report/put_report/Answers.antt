-- `replay::report::put_report` meets its contract.
use native.Mathlib.Omega.{arith}
use Rattle.bounds.proofs.Bound.{kept}
use Rattle.replay.proofs.Printing.{reported}
use Rattle.replay.proofs.report.put_report.Goals as goal

pub returns : goal.returns
returns c =
    kept (omega (arith, c.if-room-lt320.false, c.room.ensures)) (
      c.put_lead-2.ensures.0,
      reported c.args.trace (rw c.from.ensures at c.put_line.ensures).1 c.put_line-2.ensures.1 c.put_line-3.ensures.1 c.put_difference.ensures.1 c.put_lead.ensures.1
          c.put_lead-2.ensures.1,
    )
