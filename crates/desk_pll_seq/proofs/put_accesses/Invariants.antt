-- `desk_pll_seq::put_accesses` meets its contract: `Logged` is what stands there after some accesses.
use Rattle.text.specs.Page.{contents}
use Rattle.desk_pll_seq.specs.Printed.{listed}
use Rattle.desk_pll_seq.proofs.Writing.{Logged}
use Rattle.desk_pll_seq.proofs.Zipped.{left}
use Rattle.desk_pll_seq.proofs.put_accesses.Given as goal

abbrev pub invariant-loop-kind : goal.invariant-loop-kind
invariant-loop-kind l = Logged (listed l.kinds l.numbers l.values) (left l.kind-iterator) (contents l.initial.page) (contents l.page)
