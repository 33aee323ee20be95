-- One reference, target and largest divisor have one result, and one thing is handed back. Assumes nothing.
use Prim.Native.Nat.{ℕ}
use Rattle.two_stage.proofs.Unique.{unique}
use Rattle.handing.proofs.Unique.{Single, single, Settled, settled}
use Rattle.c_two_stage.specs.Tells.{TwoStageTells}

pub one : (reference target largest : ℕ) → Single (TwoStageTells reference target largest)
one reference target largest = single (λ t u. unique)

pub two_stage : (reference target largest : ℕ) → Settled 2 (TwoStageTells reference target largest)
two_stage reference target largest = settled (one reference target largest)
