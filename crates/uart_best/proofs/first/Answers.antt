-- The first candidate that is met has none below it.
use Rattle.uart_best.proofs.Laws.{begins, none_yet, first_found, none_at_all}
use Rattle.uart_best.proofs.first.Goals as goal

pub loop-bdiv-init : goal.loop-bdiv-init
loop-bdiv-init c = begins _ _

pub loop-bdiv-preserved : goal.loop-bdiv-preserved
loop-bdiv-preserved c = none_yet c.in_default.ensures c.loop-bdiv.invariant

pub returns-in-Some : goal.returns-in-Some
returns-in-Some c = first_found c.in-Some.ensures c.loop-bdiv.invariant

pub returns : goal.returns
returns c = none_at_all c.loop-bdiv-test.false c.loop-bdiv.invariant
