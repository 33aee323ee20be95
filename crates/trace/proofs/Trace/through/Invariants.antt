-- `trace::Trace::through` meets its contract: `Going` is the loop's invariant.
use Rattle.std.proofs.Common.{length}
use Rattle.trace.proofs.Going.{Going}
use Rattle.trace.proofs.Trace.through.Given as goal

abbrev pub invariant-loop-x : goal.invariant-loop-x
invariant-loop-x l = Going l.first l.second l.initial.state l.state (length l.yielded)
