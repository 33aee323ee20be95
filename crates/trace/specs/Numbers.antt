-- What the numbers of a trace are: over the whole of it, as one list of samples, however it was read.
use Rattle.std.specs.Prelude.{◌≡◌, ℕ, suc, ◌-◌, List, [], ◌∷◌, length, take}
use Rattle.trace.specs.declared.Channel.{Channel}
use Rattle.trace.specs.declared.Trace.{Trace}
use Rattle.trace.specs.Counts.{ticks, last_of}
use Rattle.trace.specs.Leads.{lead, Greatest}

-- both channels' counts, read at one moment
pub record Sample : Type 0 where
  pub first : ℕ
  pub second : ℕ

abbrev pub firsts : List Sample → List ℕ
firsts [] = []
firsts (sample ∷ samples) = sample.first ∷ firsts samples

abbrev pub seconds : List Sample → List ℕ
seconds [] = []
seconds (sample ∷ samples) = sample.second ∷ seconds samples

abbrev pub channel : ℕ → ℕ → Channel
channel total last = record { total = total; last = last }

-- a channel's ticks, and its last count
abbrev pub of_counts : List ℕ → Channel
of_counts counts = channel (ticks counts) (last_of 0 counts)

-- By how many ticks the one channel is ahead of the other at sample k, the last of the first k + 1. A natural less a greater one is 0.
abbrev pub ahead_at : List ℕ → List ℕ → ℕ → ℕ
ahead_at ones others k = ticks (take (suc k) ones) - ticks (take (suc k) others)

pub record Numbers (trace : List Sample) (s : Trace) : Type 0 where
  pub samples : s.samples ≡ length trace
  pub first : s.first ≡ of_counts (firsts trace)
  pub second : s.second ≡ of_counts (seconds trace)
  pub first_leads : Greatest (ahead_at (firsts trace) (seconds trace)) 0 (length trace) (lead 0 0) s.first_leads
  pub second_leads : Greatest (ahead_at (seconds trace) (firsts trace)) 0 (length trace) (lead 0 0) s.second_leads

-- of no samples
abbrev pub nothing : Trace
nothing = record { samples = 0; first = channel 0 0; second = channel 0 0; first_leads = lead 0 0; second_leads = lead 0 0 }
