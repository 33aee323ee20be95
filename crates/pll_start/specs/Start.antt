-- Starting the sequence: document 01's refusals 12, then 20, then 13, and the marks.
use Rattle.std.specs.Prelude.{ℕ, Bool, true, cond, ◌&&◌, eqb, leb, [], Result, Ok, Err}
use Rattle.refusals.specs.Told.{Told, answered, refused}
use Rattle.refusals.specs.Number.{BAD_LIMIT, BAD_FIELD, ALREADY}
use Rattle.refusals.specs.declared.Refusal.{Refusal}
use Rattle.refusals.specs.declared.Refusal.TheVariants as refusals
use Rattle.registers.specs.declared.PllType.{PllType}
use Rattle.registers.specs.declared.PllType.TheVariants.{Arm, Ddr, Io}
use Rattle.pll_settings.specs.declared.PllConfig.{PllConfig}
use Rattle.pll_rows.specs.declared.PllPlan.{PllPlan}
use Rattle.pll_step.specs.declared.PllSequence.{PllSequence}
use Rattle.pll_step.specs.Step.{place}
use Rattle.pll_start.specs.declared.PllMarks.{PllMarks}
use Rattle.pll_start.specs.declared.StartError.{StartError}
use Rattle.pll_start.specs.declared.StartError.TheVariants.{BadLimit, BadField, Already}
use Rattle.pll_start.specs.declared.Started.{Started}

abbrev pub refusal_of : StartError → Refusal
refusal_of BadLimit = refusals.BadLimit
refusal_of BadField = refusals.BadField
refusal_of Already = refusals.Already

abbrev pub told : Result PllSequence StartError → Told PllSequence
told (Ok s) = answered s
told (Err BadLimit) = refused BAD_LIMIT []
told (Err BadField) = refused BAD_FIELD []
told (Err Already) = refused ALREADY []

-- ---- a setting and its fields

abbrev pub fits : PllConfig → Bool
fits c = leb c.fdiv 127 && (leb c.charge_pump 15 && (leb c.loop_resistor 15 && leb c.lock_count 1023))

-- ---- the marks

abbrev pub marked : PllType → PllMarks → Bool
marked Arm m = m.arm
marked Ddr m = m.ddr
marked Io m = m.io

abbrev pub mark : PllType → PllMarks → PllMarks
mark Arm m = record { arm = true; ddr = m.ddr; io = m.io }
mark Ddr m = record { arm = m.arm; ddr = true; io = m.io }
mark Io m = record { arm = m.arm; ddr = m.ddr; io = true }

-- ---- the starts

-- no row is done, all polls are left
abbrev pub begun : PllPlan → ℕ → PllSequence
begun plan limit = record { plan = plan; place = place 0 limit 0 }

-- whatever was started before
abbrev pub start : PllPlan → ℕ → Told PllSequence
start plan limit =
    cond (eqb limit 0) (refused BAD_LIMIT []) (cond (fits plan.config) (answered (begun plan limit)) (refused BAD_FIELD []))

pub record Once : Type 0 where
  pub start : Told PllSequence
  pub marks : PllMarks

-- Once only: a refused start changes no mark, and one that goes through marks its PLL.
abbrev pub once : PllType → Told PllSequence → PllMarks → Once
once pll (refused n ns) m = record { start = refused n ns; marks = m }
once pll (answered s) m =
    cond (marked pll m) (record { start = refused ALREADY []; marks = m }) (record { start = answered s; marks = mark pll m })

abbrev pub told_once : Started → Once
told_once r = record { start = told r.start; marks = r.marks }
