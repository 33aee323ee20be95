-- `desk_uart_list::put_pairs` meets its contract: `Progress` is what stands there before the turn at bdiv.
use Prim.Native.Nat.{◌+◌, ◌-◌}
use Rattle.text.specs.Page.{contents}
use Rattle.uart_candidate.specs.Range.{LAST}
use Rattle.desk_uart_list.proofs.Listing.{Progress}
use Rattle.desk_uart_list.proofs.put_pairs.Given as goal

abbrev pub invariant-loop-bdiv : goal.invariant-loop-bdiv
invariant-loop-bdiv l = Progress l.wanted.reference l.wanted.target (contents l.initial.page) (contents l.page) l.bdiv

abbrev pub decreases-loop-bdiv : goal.decreases-loop-bdiv
decreases-loop-bdiv l = LAST + 1 - l.bdiv
