-- Starting a run for a host in C: document 01's refusals 12, then 20, then 13, or the first step; and the marks as bits of a number.
use Rattle.std.specs.Prelude.{ℕ, ◌+◌, ◌*◌, ◌/◌, ◌%◌, Bool, true, false, cond, [], eqb, leb}
use Rattle.refusals.specs.Told.{Told, answered, refused}
use Rattle.refusals.specs.Number.{BAD_LIMIT, BAD_FIELD}
use Rattle.pll_step.specs.declared.PllSequence.{PllSequence}
use Rattle.pll_step.specs.Step.{next}
use Rattle.pll_start.specs.declared.PllMarks.{PllMarks}
use Rattle.pll_start.specs.Start.{start, Once, once}
use Rattle.c_pll_start.specs.declared.Plan.{Plan}
use Rattle.c_pll_start.specs.declared.Started.{Started}
use Rattle.c_pll_start.specs.declared.Step.{Step}
use Rattle.c_pll_start.specs.Step.{pll_of, pll_plan_of, nothing, given}

-- a PLL that is none is a field too wide
abbrev pub start_of : Plan → Told PllSequence
start_of p =
    cond (eqb p.polls 0) (refused BAD_LIMIT []) (cond (leb p.pll 2) (start (pll_plan_of p) p.polls) (refused BAD_FIELD []))

-- a refused start gives a run that no step takes
abbrev pub not_started : Plan → ℕ → Step
not_started p n = nothing n (record { plan = p; done = 255; word = 0 })

-- the word handed to the first step is of no account
abbrev pub first : Plan → Told PllSequence → Step
first p (answered s) = given p (next s 0)
first p (refused n ns) = not_started p n

abbrev pub started : Plan → Step
started p = first p (start_of p)

-- ---- once only

abbrev pub flag : Bool → ℕ
flag false = 0
flag true = 1

-- bit 0 marks ARM, bit 1 DDR, bit 2 IO
abbrev pub marks_of : ℕ → PllMarks
marks_of n = record { arm = eqb (n % 2) 1; ddr = eqb (n / 2 % 2) 1; io = eqb (n / 4 % 2) 1 }

-- the other bits stay as they are
abbrev pub with_marks : ℕ → PllMarks → ℕ
with_marks n m = n / 8 * 8 + flag m.io * 4 + flag m.ddr * 2 + flag m.arm

abbrev pub begun : Plan → ℕ → Once → Started
begun p n o = record { step = first p o.start; marks = with_marks n o.marks }

abbrev pub started_once : Plan → ℕ → Started
started_once p n = begun p n (once (pll_of p.pll) (start_of p) (marks_of n))
