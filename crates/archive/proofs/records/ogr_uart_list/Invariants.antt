-- Before the turn at bdiv the pairs below it are written, and nothing after them.
use Rattle.uart_list.proofs.Filling.{Filling}
use Rattle.archive.proofs.records.ogr_uart_list.Given as goal

abbrev pub invariant-loop-bdiv : goal.invariant-loop-bdiv
invariant-loop-bdiv l = Filling l.wanted.reference l.wanted.target l.initial.records l.records l.bdiv l.n
