-- One reference and frequency have one result, and one thing is handed back. Assumes nothing.
use Prim.Native.Nat.{ℕ}
use Rattle.ttc.proofs.Laws.{unique}
use Rattle.handing.proofs.Unique.{Single, single, Settled, settled}
use Rattle.c_ttc.specs.Tells.{TtcTells}

pub one : (reference frequency : ℕ) → Single (TtcTells reference frequency)
one reference frequency = single (λ t u. unique reference frequency)

pub ttc : (reference frequency : ℕ) → Settled 2 (TtcTells reference frequency)
ttc reference frequency = settled (one reference frequency)
