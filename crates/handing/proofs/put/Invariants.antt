-- `handing::put` meets its contract: after i turns the first i words are overwritten. Assumes nothing.
use Rattle.handing.proofs.Over.{Copying}
use Rattle.handing.proofs.put.Given as goal

abbrev pub invariant-loop-i : goal.invariant-loop-i
invariant-loop-i g l = Copying l.initial.out l.words l.out l.i
