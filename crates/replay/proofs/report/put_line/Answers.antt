-- `replay::report::put_line` meets its contract.
use native.Mathlib.Omega.{arith}
use Rattle.replay.proofs.Printing.{lined}
use Rattle.replay.proofs.report.put_line.Goals as goal

pub returns : goal.returns
returns c =
    lined c.args.n c.put_bytes.result c.put_decimal.result (omega arith) c.put_bytes.ensures c.put_decimal.ensures c.put_byte.result c.requires c.put_byte.ensures
