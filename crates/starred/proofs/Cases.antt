-- Every starred case holds: each call's own test is computed over the whole table once. Assumes nothing.
use mathlib.Core.Bool.{Bool, false}
use lib.Dec.{T, eqb, eqb→eq}
use Rattle.refusals.specs.Told.{answered, refused}
use Rattle.tables.specs.Table.{◌∈◌}
use Rattle.tables.proofs.Table.{of_all}
use Rattle.nearness.specs.Distance.{distance}
use Rattle.two_stage.specs.Best.{frequency}
use Rattle.two_stage.proofs.Test as pairs
use Rattle.i2c.proofs.Test as divisors
use Rattle.ttc.proofs.Test as intervals
use Rattle.pll_settings.proofs.Test as settings
use Rattle.starred.specs.Cases.{Case, Holds, starred, two_stage, two_stage_hertz, i2c, ttc, pll_target, pll_mul}

abbrev passes : Case → Bool
passes (two_stage reference target largest (answered p)) = pairs.best_test reference target largest p.div0 p.div1
passes (two_stage reference target largest (refused number carried)) = false
passes (two_stage_hertz reference d0 d1 hertz) = eqb (frequency reference d0 d1) hertz
passes (i2c input speed tells) = divisors.test input speed tells
passes (ttc reference frequency tells) = intervals.test reference frequency tells
passes (pll_target crystal target tells) = settings.right_target crystal target tells
passes (pll_mul multiplier tells) = settings.right multiplier tells

holds : (c : Case) → T (passes c) → Holds c
holds (two_stage reference target largest (answered p)) t = pairs.sound reference target largest t
holds (two_stage reference target largest (refused number carried)) t = absurd t
holds (two_stage_hertz reference d0 d1 hertz) t = eqb→eq (frequency reference d0 d1) hertz t
holds (i2c input speed tells) t = divisors.sound input speed tells t
holds (ttc reference frequency tells) t = intervals.sound reference frequency tells t
holds (pll_target crystal target tells) t = settings.sound_target crystal target tells t
holds (pll_mul multiplier tells) t = settings.sound multiplier tells t

pub starred_hold : (c : Case) → c ∈ starred → Holds c
unfolding distance
starred_hold c is = holds c (of_all passes tt is)
