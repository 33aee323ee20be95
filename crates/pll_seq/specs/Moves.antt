-- What the parts of the recording promise one another: what is still to come, how many accesses are recorded, and the rows so far.
use Rattle.std.specs.Prelude.{ℕ, ◌+◌, ◌≡◌, List, length, drop, Result, MatchResult}
use Rattle.pll_rows.specs.declared.PllPlan.{PllPlan}
use Rattle.pll_rows.specs.Sequence.{Access, Log, locked, after, ends, log, sequence}
use Rattle.pll_seq.specs.declared.End.{End}
use Rattle.pll_seq.specs.declared.recorder.Recorder.{Recorder}
use Rattle.pll_seq.specs.Record.{Rows, Room, stored, ending}
use Rattle.pll_seq.specs.Recorder.{rows_of}

-- what is to come where so many rows are done, n polls are left, and w is the word last read or written
unfoldable pub to_come : PllPlan → ℕ → ℕ → ℕ → List ℕ → Log
to_come plan at n w words = log (drop at (sequence plan)) n w words

abbrev pub whole : PllPlan → ℕ → List ℕ → Log
whole plan limit words = to_come plan 0 limit 0 words

-- from the polls on, with n of them left
abbrev pub to_poll : PllPlan → ℕ → List ℕ → Log
to_poll plan n words = to_come plan 9 n 0 words

-- from the lock on
abbrev pub to_close : PllPlan → List ℕ → Log
to_close plan words = to_come plan 10 0 0 words

-- nothing, whatever words are left
abbrev pub locks : List ℕ → Log
locks words = ends locked

-- At first l is to come, n accesses are recorded and the rows are `before`; one after the other is recorded.
pub data Moves (l : Log) (n : ℕ) (before : Rows) : Log → ℕ → Rows → Type 0 where
  here : Moves l n before l n before
  on : {a : Access} {k rest : Log} {m next : ℕ} {now then : Rows} →
      Moves l n before k m now → k ≡ after a rest → next ≡ m + 1 → then ≡ stored m a now → Moves l n before rest next then

-- n accesses are recorded, and all that is to come fits
abbrev pub Enough : Log → ℕ → Rows → Type 0
Enough l n r = Room (n + length l.accesses) r

-- the same of a recorder
abbrev pub Turns : Log → Recorder → Log → Recorder → Type 0
Turns l before k now = Moves l before.count (rows_of before) k now.count (rows_of now)

-- A part goes on to what comes after it, given the words that are left, or the run is over.
abbrev pub Goes : Log → Recorder → (List ℕ → Log) → Recorder → Result (Unit {0}) End → Type 0
Goes l before rest now r = MatchResult r (λ _. Turns l before (rest now.words.now) now) (λ e. Turns l before (ends (ending e)) now)
