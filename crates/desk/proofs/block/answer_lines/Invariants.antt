-- `desk::block::answer_lines` meets its contract: what was used so far was gone through.
use Prim.Native.Nat.{◌-◌}
use lib.ListN.{length}
use Rattle.text.specs.Page.{contents}
use Rattle.desk.specs.Block.{Through, fresh}
use Rattle.desk.proofs.block.answer_lines.Given as goal

abbrev pub invariant-loop-end : goal.invariant-loop-end
invariant-loop-end l = Through l.input (fresh l.from) (fresh l.used) (contents l.initial.page) (contents l.page)

abbrev pub decreases-loop-end : goal.decreases-loop-end
decreases-loop-end l = length l.input - l.used
