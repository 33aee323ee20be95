-- One read and what comes of it: what the parts of the code promise each other.
use Rattle.std.specs.Prelude.{ℕ, ◌+◌, ◌≤◌, ◌<◌, ◌≡◌, List, length, take, Result, Ok, Err, MatchResult}
use Rattle.trace.specs.declared.Trace.{Trace}
use Rattle.trace.specs.Numbers.{firsts, seconds}
use Rattle.trace.specs.Parts.{MOST, Feeds, fed}
use Rattle.replay.specs.Samples.{samples_of, left_of}
use Rattle.replay.specs.declared.report.Fault.{Fault}
use Rattle.replay.specs.Ending.{so_far}
use Rattle.replay.specs.declared.held.Held.{Held}

-- A read leaves what was held as it was, and stays within the input. One that fails is told by how many bytes came before it.
pub record Filled (h : Held) (before after : List ℕ) (r : Result ℕ Fault) : Type 0 where
  pub front : take h.count after ≡ take h.count before
  pub room : MatchResult r (λ n. h.count + n ≤ length before) (λ fault. fault ≡ Fault.Unreadable (so_far h.trace h.count))

-- What these bytes make of a state: it goes on, with what is left of a sample at the input's front, or there are too many.
pub data Advances (s : Trace) (bytes after : List ℕ) : Result Held Fault → Type 0 where
  goes_on : {h : Held} → Feeds s (firsts (samples_of bytes)) (seconds (samples_of bytes)) (fed 0 h.trace)
      → take h.count after ≡ left_of bytes → h.count ≡ length (left_of bytes) → Advances s bytes after (Ok h)
  too_long : MOST < s.samples + length (samples_of bytes) → Advances s bytes after (Err Fault.TooLong)
