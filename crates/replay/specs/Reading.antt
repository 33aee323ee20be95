-- A trace that is read in blocks, and what is said of it at the end.
use Rattle.std.specs.Prelude.{ℕ, ◌≤◌, ◌<◌, ◌≡◌, Bool, true, false, List, [], ◌++◌, length, Result, Ok, Err}
use Rattle.trace.specs.declared.Trace.{Trace}
use Rattle.trace.specs.Numbers.{firsts, seconds, Numbers, nothing}
use Rattle.trace.specs.Parts.{MOST, Feeds, fed}
use Rattle.replay.specs.Samples.{samples_of, left_of}
use Rattle.replay.specs.declared.report.Fault.{Fault}

-- These bytes were read, in any blocks, and led to this state; `held` is what there is of a sample that has not ended.
-- Law `settled`: the state has the numbers of the bytes' samples, however the blocks were cut.
pub data Reads : List ℕ → Trace → List ℕ → Type 0 where
  start : Reads [] nothing []
  more : {bytes held : List ℕ} {s r : Trace} (block : List ℕ) → Reads bytes s held
      → Feeds s (firsts (samples_of (held ++ block))) (seconds (samples_of (held ++ block))) (fed 0 r)
      → Reads (bytes ++ block) r (left_of (held ++ block))

-- What is said of the bytes that were read, and of whether a read failed. Law `unique`: one thing.
pub data Ends (bytes : List ℕ) : Bool → Result Trace Fault → Type 0 where
  whole : {s : Trace} → length (samples_of bytes) ≤ MOST → length (left_of bytes) ≡ 0 → Numbers (samples_of bytes) s
      → Ends bytes false (Ok s)
  unfinished : length (samples_of bytes) ≤ MOST → 0 < length (left_of bytes)
      → Ends bytes false (Err (Fault.Unfinished (length bytes)))
  too_long : MOST < length (samples_of bytes) → Ends bytes false (Err Fault.TooLong)
  unreadable : Ends bytes true (Err (Fault.Unreadable (length bytes)))

-- No contract can say which bytes a read gives: some were read.
pub record Told (outcome : Result Trace Fault) : Type 0 where
  pub bytes : List ℕ
  pub failed : Bool
  pub ends : Ends bytes failed outcome
