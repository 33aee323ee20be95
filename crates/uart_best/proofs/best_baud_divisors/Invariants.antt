-- Before the turn at bdiv, the best pair so far is the best of those below it.
use Rattle.uart_best.proofs.Laws.{BestBelow}
use Rattle.uart_best.proofs.best_baud_divisors.Given as goal

abbrev pub invariant-loop-bdiv : goal.invariant-loop-bdiv
invariant-loop-bdiv l = BestBelow l.wanted.reference l.wanted.target l.bdiv l.best
