-- What a whole run hands to a program in C. Its refusals are 12, then 20, then 9, and none of them writes.
use Rattle.std.specs.Prelude.{ℕ, ◌≡◌, List, [], ◌∷◌, Result, Ok, Err}
use Rattle.refusals.specs.Told.{Told, answered, refused}
use Rattle.refusals.specs.Refusal.{number_of}
use Rattle.refusals.specs.declared.Refusal.{Refusal}
use Rattle.pll_rows.specs.Sequence.{Ending, locked, timed_out, starved}
use Rattle.pll_step.specs.declared.PllSequence.{PllSequence}
use Rattle.pll_start.specs.Start as Start
use Rattle.pll_seq.specs.declared.Ran as run
use Rattle.pll_seq.specs.Record as Record
use Rattle.pll_seq.specs.Record.{Rows, Ended, Recorded}
use Rattle.c_pll_start.specs.declared.Plan.{Plan}
use Rattle.c_pll_start.specs.Step.{pll_plan_of}
use Rattle.c_pll_start.specs.Start.{start_of}
use Rattle.c_pll_seq.specs.declared.Ran.{Ran}
use Rattle.c_pll_seq.specs.declared.SeqError.{SeqError}
use Rattle.c_pll_seq.specs.declared.SeqError.TheVariants.{NotStarted, NoRoom}

abbrev pub end_number : Ending → ℕ
end_number locked = 0
end_number timed_out = 1
end_number starved = 2

-- refusal 9 carries how many records each of the rows must hold, the others nothing
abbrev pub handed : Told Ended → Ran
handed (answered e) = record { refusal = 0; end = end_number e.end; accesses = e.accesses }
handed (refused n []) = record { refusal = n; end = 0; accesses = 0 }
handed (refused n (m ∷ ms)) = record { refusal = n; end = 0; accesses = m }

-- ---- what is told

abbrev pub refusal_of : SeqError → Refusal
refusal_of (NotStarted e) = Start.refusal_of e
refusal_of (NoRoom e) = Record.refusal_of e

abbrev pub told : Result run.Ran SeqError → Told Ended
told (Ok r) = Record.told (Ok r)
told (Err (NotStarted e)) = refused (number_of (Start.refusal_of e)) []
told (Err (NoRoom e)) = Record.told (Err e)

-- The rows before, the rows after, and what is told.
pub data Tells (plan : Plan) (reads : List ℕ) (before : Rows) : Rows → Told Ended → Type 0 where
  not_started : {n : ℕ} → start_of plan ≡ refused n [] → Tells plan reads before before (refused n [])
  started : {s : PllSequence} {after : Rows} {t : Told Ended} → start_of plan ≡ answered s →
      Recorded (pll_plan_of plan) plan.polls reads before after t → Tells plan reads before after t

-- The same as it is handed.
pub data Runs (plan : Plan) (reads : List ℕ) (before after : Rows) : Ran → Type 0 where
  hands : {t : Told Ended} → Tells plan reads before after t → Runs plan reads before after (handed t)
