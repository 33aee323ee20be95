-- The records fill as `Filling.antt` of uart_list says; where they are too few, nothing is written.
use Rattle.std.proofs.Common.{arith}
use Rattle.uart_list.proofs.Filling.{begun, passes, writes}
use Rattle.c_uart.proofs.Listed.{full, not_begun}
use Rattle.archive.proofs.records.ogr_uart_list.Goals as goal
use Rattle.archive.proofs.records.ogr_uart_list.Goals.{in-Some, in_default-viable}

pub loop-bdiv-init : goal.loop-bdiv-init
loop-bdiv-init c = begun c.in_default.ensures

pub bounds-records-n : goal.bounds-records-n
bounds-records-n c =
    let w = writes c.loop-bdiv.invariant c.loop-bdiv-test.true c.in-Some.ensures in
    omega (arith, w.place, c.loop-bdiv.auto.records)

pub loop-bdiv-preserved : goal.loop-bdiv-preserved
loop-bdiv-preserved c =
    elim c.match-viable.branch [
      | in-Some w ↦
          rw (w.n-is, w.records-is) (writes c.loop-bdiv.invariant c.loop-bdiv-test.true w.in-Some.ensures).then
      | in_default-viable w ↦ rw (w.n-is, w.records-is) (passes c.loop-bdiv.invariant c.loop-bdiv-test.true w.in_default-viable.ensures)
    ]

pub returns-in-Err : goal.returns-in-Err
returns-in-Err c = rw c.list_code.ensures (not_begun c.new-wanted.ensures c.in-Err.ensures)

pub returns : goal.returns
returns c = rw c.list_code-2.ensures (full c.new-wanted.ensures c.loop-bdiv-test.false c.loop-bdiv.invariant)
