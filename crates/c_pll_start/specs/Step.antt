-- A step of a run that a host in C keeps: the run's numbers, what the host is told, and the run for the next step.
use Rattle.std.specs.Prelude.{ℕ, Bool, cond, ◌&&◌, eqb, leb, Option, Some, None}
use Rattle.refusals.specs.Told.{Told, answered, refused}
use Rattle.refusals.specs.Number.{BAD_FIELD}
use Rattle.registers.specs.declared.PllType.{PllType}
use Rattle.registers.specs.declared.PllType.TheVariants.{Arm, Ddr, Io}
use Rattle.pll_settings.specs.declared.PllConfig.{PllConfig}
use Rattle.pll_rows.specs.declared.PllPlan.{PllPlan}
use Rattle.pll_step.specs.declared.Place.{Place}
use Rattle.pll_step.specs.declared.PllSequence.{PllSequence}
use Rattle.pll_step.specs.Step.{Asked, reads, writes, locked, Asking, place, next}
use Rattle.pll_start.specs.Start.{fits}
use Rattle.c_pll_start.specs.declared.Plan.{Plan}
use Rattle.c_pll_start.specs.declared.Run.{Run}
use Rattle.c_pll_start.specs.declared.Step.{Step}

-- ---- a run by its numbers

-- 0 ARM, 1 DDR, and so 2 IO
abbrev pub pll_of : ℕ → PllType
pll_of n = cond (eqb n 0) Arm (cond (eqb n 1) Ddr Io)

abbrev pub config_of : Plan → PllConfig
config_of p = record { fdiv = p.fdiv; charge_pump = p.charge_pump; loop_resistor = p.loop_resistor; lock_count = p.lock_count }

abbrev pub pll_plan_of : Plan → PllPlan
pll_plan_of p = record { pll = pll_of p.pll; config = config_of p; bypassed = p.bypassed }

-- plan.polls are the polls that are left
abbrev pub sequence_of : Run → PllSequence
sequence_of r = record { plan = pll_plan_of r.plan; place = place r.done r.plan.polls r.word }

-- a run could be in it: there are three PLLs and twelve rows, and every setting fits its field
abbrev pub takes : Run → Bool
takes r = leb r.plan.pll 2 && (leb r.done 12 && fits (config_of r.plan))

-- the same, as far as the code gets it out of the numbers
abbrev pub plan_in : Plan → Option PllPlan
plan_in p = cond (leb p.pll 2) (Some (pll_plan_of p)) None

abbrev pub sequence_in : Run → Option PllSequence
sequence_in r = cond (takes r) (Some (sequence_of r)) None

-- the plan stays, but for the polls that are left
abbrev pub run_at : Plan → Place → Run
run_at p q =
    record {
      plan =
          record {
            pll = p.pll;
            bypassed = p.bypassed;
            fdiv = p.fdiv;
            charge_pump = p.charge_pump;
            loop_resistor = p.loop_resistor;
            lock_count = p.lock_count;
            polls = q.polls;
          };
      done = q.at;
      word = q.word;
    }

-- ---- what the host is told

abbrev pub READ : ℕ
READ = 0

abbrev pub WRITE : ℕ
WRITE = 1

abbrev pub LOCKED : ℕ
LOCKED = 2

abbrev pub NOTHING : ℕ
NOTHING = 3

abbrev pub asks : ℕ → ℕ → ℕ → Run → Step
asks request i v r = record { refusal = 0; request = request; number = i; value = v; run = r }

abbrev pub nothing : ℕ → Run → Step
nothing n r = record { refusal = n; request = NOTHING; number = 0; value = 0; run = r }

abbrev pub tells : Told Asked → Run → Step
tells (answered (reads i)) r = asks READ i 0 r
tells (answered (writes i v)) r = asks WRITE i v r
tells (answered locked) r = asks LOCKED 0 0 r
tells (refused n ns) r = nothing n r

abbrev pub given : Plan → Asking → Step
given p a = tells a.asked (run_at p a.place)

-- x is the word that the host read
abbrev pub stepped : Run → ℕ → Step
stepped r x = cond (takes r) (given r.plan (next (sequence_of r) x)) (nothing BAD_FIELD r)
