-- `handing::put` meets its contract. Assumes nothing.
use native.Mathlib.Omega.{arith}
use Rattle.handing.proofs.Over.{one_more}
use Rattle.handing.proofs.put.Goals as goal

pub loop-i-preserved : goal.loop-i-preserved
loop-i-preserved g c = one_more c.loop-i.invariant _ (omega (arith, c.loop-i-test.true)) c.index-words-i.is
