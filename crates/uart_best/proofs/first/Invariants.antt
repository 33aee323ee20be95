-- No candidate is below bdiv.
use Rattle.uart_best.proofs.Laws.{NoneBelow}
use Rattle.uart_best.proofs.first.Given as goal

abbrev pub invariant-loop-bdiv : goal.invariant-loop-bdiv
invariant-loop-bdiv l = NoneBelow l.wanted.reference l.wanted.target l.bdiv
