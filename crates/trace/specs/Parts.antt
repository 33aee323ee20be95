-- What a part of a trace, two rows of counts, makes of any state, one that no trace has too.
use Rattle.std.specs.Prelude.{◌≡◌, ℕ, suc, ◌+◌, ◌-◌, ◌%◌, ◌^◌, ◌<◌, ◌≤◌, cond, ◌≢◌, List, ◌∷◌, length, take, ◌==◌, slice_index_or, Result, Ok, Err}
use Rattle.refusals.specs.Number.{BAD_ROWS, TRACE_LONG}
use Rattle.refusals.specs.Refusal.{number_of}
use Rattle.refusals.specs.declared.Refusal.{Refusal}
use Rattle.trace.specs.declared.Channel.{Channel}
use Rattle.trace.specs.declared.Fed.{Fed}
use Rattle.trace.specs.declared.Trace.{Trace}
use Rattle.trace.specs.declared.TraceError.{TraceError}
use Rattle.trace.specs.declared.TraceError.TheVariants.{BadRows, TraceLong}
use Rattle.trace.specs.Counts.{ticks, last_of}
use Rattle.trace.specs.Leads.{Greatest}
use Rattle.trace.specs.Numbers.{channel}

-- The count before a part's first is the channel's last. The first sample of all follows itself, so that it is no step.
abbrev pub prior : ℕ → Channel → List ℕ → ℕ
prior samples c counts = cond (samples == 0) (slice_index_or counts 0 c.last) c.last

-- The channel's total after k counts of a part. It wraps, which no trace of up to MOST samples can make it do (law `below`).
abbrev pub after : ℕ → Channel → List ℕ → ℕ → ℕ
after samples c counts k = (c.total + ticks (prior samples c counts ∷ take k counts)) % 2 ^ 64

-- by how many ticks the one channel is ahead of the other at a part's sample k
abbrev pub ahead_after : ℕ → Channel → List ℕ → Channel → List ℕ → ℕ → ℕ
ahead_after samples one ones other others k = after samples one ones (suc k) - after samples other others (suc k)

pub record Onward (s : Trace) (xs ys : List ℕ) (r : Trace) : Type 0 where
  pub samples : r.samples ≡ s.samples + length xs
  pub first : r.first ≡ channel (after s.samples s.first xs (length xs)) (last_of s.first.last xs)
  pub second : r.second ≡ channel (after s.samples s.second ys (length xs)) (last_of s.second.last ys)
  pub first_leads : Greatest (ahead_after s.samples s.first xs s.second ys) s.samples (length xs) s.first_leads r.first_leads
  pub second_leads : Greatest (ahead_after s.samples s.second ys s.first xs) s.samples (length xs) s.second_leads r.second_leads

abbrev pub MOST : ℕ
MOST = 16_777_216

abbrev pub fed : ℕ → Trace → Fed
fed refusal s = record { refusal = refusal; trace = s }

abbrev pub refusal_of : TraceError → Refusal
refusal_of BadRows = Refusal.BadRows
refusal_of TraceLong = Refusal.TraceLong

-- what a call came to, beside the state that it was given
abbrev pub fed_of : Trace → Result Trace TraceError → Fed
fed_of s (Ok r) = fed 0 r
fed_of s (Err e) = fed (number_of (refusal_of e)) s

-- A refusal gives the state back as it was.
pub data Feeds (s : Trace) (xs ys : List ℕ) : Fed → Type 0 where
  bad_rows : length xs ≢ length ys → Feeds s xs ys (fed BAD_ROWS s)
  trace_long : length xs ≡ length ys → MOST < s.samples + length xs → Feeds s xs ys (fed TRACE_LONG s)
  goes_on : {r : Trace} → length xs ≡ length ys → s.samples + length xs ≤ MOST → Onward s xs ys r → Feeds s xs ys (fed 0 r)
