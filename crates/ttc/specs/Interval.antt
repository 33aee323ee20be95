-- The TTC's prescaler and interval ticks, in document 01's words. Every quotient is rounded down.
use Rattle.std.specs.Prelude.{[], ℕ, zero, suc, ◌*◌, ◌/◌, ◌^◌, ◌≤◌, ◌<◌, ◌≡◌, Option, None, Some, Result, Ok, Err}
use Rattle.refusals.specs.Told.{Told, answered, refused}
use Rattle.refusals.specs.Number.{ZERO_TARGET}
use Rattle.refusals.specs.Refusal.{told as told_of}
use Rattle.refusals.specs.declared.Refusal.{Refusal}
use Rattle.refusals.specs.declared.Refusal.TheVariants as refusal
use Rattle.ttc.specs.declared.Setting.{Setting}
use Rattle.ttc.specs.declared.ZeroTarget.{ZeroTarget}

-- reference/(2^k freq)
abbrev pub ticks : ℕ → ℕ → ℕ → ℕ
ticks reference frequency k = reference / (2 ^ k * frequency)

-- k is the least with that quotient at most 65,535
pub record Least (reference frequency k : ℕ) : Type 0 where
  pub fits : ticks reference frequency k ≤ 65535
  pub least : (j : ℕ) → j < k → 65535 < ticks reference frequency j

-- none for k = 0, else k-1
abbrev pub prescaler : ℕ → Option ℕ
prescaler zero = None
prescaler (suc p) = Some p

-- the prescaler for k, and that quotient
abbrev pub setting : ℕ → ℕ → ℕ → Setting
setting reference frequency k = record { prescaler_reg = prescaler k; interval_ticks = ticks reference frequency k }

-- what the call must tell
pub data Right (reference frequency : ℕ) : Told Setting → Type 0 where
  zero_target : frequency ≡ 0 → Right reference frequency (refused ZERO_TARGET [])
  found : (k : ℕ) → 0 < frequency → Least reference frequency k → k ≤ 16 → Right reference frequency (answered (setting reference frequency k))

-- the refusal that the error is
abbrev pub refusal_of : ZeroTarget → Refusal
refusal_of e = refusal.ZeroTarget

-- document 01's number and values for each case
abbrev pub told : Result Setting ZeroTarget → Told Setting
told (Ok s) = answered s
told (Err e) = told_of (Err (refusal_of e))
