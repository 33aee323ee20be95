-- One input and speed have one result, and one thing is handed back. Assumes nothing.
use Prim.Native.Nat.{ℕ}
use mathlib.Core.Bool.{Bool}
use Rattle.i2c.proofs.Laws.{unique}
use Rattle.handing.proofs.Unique.{Single, single, Settled, settled}
use Rattle.c_i2c.specs.Tells.{I2cTells}

pub one : (input : ℕ) (fast : Bool) → Single (I2cTells input fast)
one input fast = single (λ t u. unique)

pub i2c : (input : ℕ) (fast : Bool) → Settled 2 (I2cTells input fast)
i2c input fast = settled (one input fast)
