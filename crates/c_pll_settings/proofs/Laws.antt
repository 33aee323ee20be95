-- One multiplier, or one crystal and target, has one result, and one thing is handed back. Assumes nothing.
use Prim.Native.Nat.{ℕ}
use Rattle.pll_settings.proofs.Unique.{unique, unique_target}
use Rattle.handing.proofs.Unique.{Single, single, Settled, settled}
use Rattle.c_pll_settings.specs.Tells.{PllMulTells, PllTargetTells}

pub one_mul : (multiplier : ℕ) → Single (PllMulTells multiplier)
one_mul multiplier = single (λ t u. unique)

pub one_target : (crystal target : ℕ) → Single (PllTargetTells crystal target)
one_target crystal target = single (λ t u. unique_target)

pub pll_mul : (multiplier : ℕ) → Settled 4 (PllMulTells multiplier)
pll_mul multiplier = settled (one_mul multiplier)

pub pll_target : (crystal target : ℕ) → Settled 4 (PllTargetTells crystal target)
pll_target crystal target = settled (one_target crystal target)
