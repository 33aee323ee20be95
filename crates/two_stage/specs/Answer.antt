-- What the search answers: refusal 6 exactly when the target is 0, else 7 exactly when the largest divisor is 0, else the
-- best pair.
use Rattle.std.specs.Prelude.{ℕ, ◌<◌, ◌≡◌, [], Result, Ok, Err}
use Rattle.refusals.specs.Told.{Told, answered, refused}
use Rattle.refusals.specs.Number.{ZERO_TARGET, BAD_MAX}
use Rattle.refusals.specs.Refusal.{told as told_of}
use Rattle.refusals.specs.declared.Refusal.{Refusal}
use Rattle.refusals.specs.declared.Refusal.TheVariants as refusal
use Rattle.two_stage.specs.declared.DivisorPair.{DivisorPair}
use Rattle.two_stage.specs.declared.TwoStageError.{TwoStageError}
use Rattle.two_stage.specs.declared.TwoStageError.TheVariants.{ZeroTarget, BadMax}
use Rattle.two_stage.specs.Best.{Best}

-- the refusal that each error is
abbrev pub refusal_of : TwoStageError → Refusal
refusal_of ZeroTarget = refusal.ZeroTarget
refusal_of BadMax = refusal.BadMax

-- document 01's number and values for each case
abbrev pub told : Result DivisorPair TwoStageError → Told DivisorPair
told (Ok pair) = answered pair
told (Err e) = told_of (Err (refusal_of e))

pub data Right (reference target largest : ℕ) : Told DivisorPair → Type 0 where
  no_target : target ≡ 0 → Right reference target largest (refused ZERO_TARGET [])
  no_largest : 0 < target → largest ≡ 0 → Right reference target largest (refused BAD_MAX [])
  best :
      (pair : DivisorPair) → 0 < target → 0 < largest → Best reference target largest pair.div0 pair.div1
      → Right reference target largest (answered pair)
