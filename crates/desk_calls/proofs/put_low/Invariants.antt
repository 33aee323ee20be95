-- `desk_calls::put_low` meets its contract: after i turns the first i words are overwritten. Assumes nothing.
use Rattle.handing.proofs.Over.{Copying}
use Rattle.desk_calls.proofs.put_low.Given as goal

abbrev pub invariant-loop-i : goal.invariant-loop-i
invariant-loop-i l = Copying l.initial.out l.words l.out l.i
