-- `replay::report::put_lead` meets its contract.
use native.Mathlib.Omega.{arith}
use Rattle.replay.proofs.Printing.{room_for_at, led}
use Rattle.replay.proofs.report.put_lead.Goals as goal

pub put_line-requires : goal.put_line-requires
put_line-requires c =
    room_for_at c.args.lead.ticks c.put_bytes.result c.put_decimal.result (omega arith) c.put_bytes.ensures c.put_decimal.ensures c.requires

pub returns : goal.returns
returns c =
    led c.args.lead c.put_bytes.result c.put_decimal.result c.put_line.result c.requires c.put_bytes.ensures c.put_decimal.ensures
    (rw c.from.ensures at c.put_line.ensures)
