-- `desk_uart_list::put_pairs` meets its contract: `Progress` is what stands there before the turn at bdiv.
use mathlib.Core.Path.{refl}
use native.Mathlib.Omega.{arith}
use Rattle.desk_uart_list.proofs.Listing.{a_pair, no_pair, finished}
use Rattle.desk_uart_list.proofs.put_pairs.Goals as goal
use Rattle.desk_uart_list.proofs.put_pairs.Goals.{in-Some+in_ok-put_pair, in_default}

pub loop-bdiv-preserved : goal.loop-bdiv-preserved
loop-bdiv-preserved c = let h = c.loop-bdiv.invariant in
    elim c.match-viable.branch [
      | in-Some+in_ok-put_pair w ↦ rw w.page-is (a_pair h (omega arith) c.viable.ensures w.in-Some.is w.put_pair.ensures.1)
      | in_default w ↦ rw w.page-is (no_pair h (omega arith) c.viable.ensures w.in_default.is)
    ]

pub returns : goal.returns
returns c = (refl, finished c.loop-bdiv.invariant c.loop-bdiv-test.false)
