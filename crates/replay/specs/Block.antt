-- A block of a trace's bytes, taken in.
use Rattle.std.specs.Prelude.{ℕ, ◌+◌, ◌≡◌, List, length}
use Rattle.trace.specs.declared.Trace.{Trace}
use Rattle.trace.specs.Numbers.{firsts, seconds}
use Rattle.trace.specs.Parts.{Feeds, fed_of}
use Rattle.replay.specs.Samples.{samples_of, left_of}
use Rattle.replay.specs.declared.block.Taken.{Taken}

-- the longest block
abbrev pub BLOCK : ℕ
BLOCK = 65_536

-- its whole samples are fed, and a sample that has not ended is left
pub record Takes (s : Trace) (bytes : List ℕ) (r : Taken) : Type 0 where
  pub feeds : Feeds s (firsts (samples_of bytes)) (seconds (samples_of bytes)) (fed_of s r.fed)
  pub used : r.used + length (left_of bytes) ≡ length bytes
