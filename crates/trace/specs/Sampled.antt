-- One sample more: what the parts of the code promise each other.
use Rattle.std.specs.Prelude.{◌≡◌, ℕ, ◌+◌, ◌-◌, ◌%◌, ◌^◌, ◌≤◌, cond, List, length, ◌==◌, nat_lt}
use Rattle.trace.specs.declared.Channel.{Channel}
use Rattle.trace.specs.declared.Lead.{Lead}
use Rattle.trace.specs.declared.Trace.{Trace}
use Rattle.trace.specs.Counts.{step}
use Rattle.trace.specs.Leads.{lead}
use Rattle.trace.specs.Numbers.{channel}
use Rattle.trace.specs.Parts.{MOST}

abbrev pub counted : Channel → ℕ → Channel
counted c count = channel ((c.total + step c.last count) % 2 ^ 64) count

abbrev pub raised : Lead → ℕ → ℕ → Lead
raised l ticks at = cond (nat_lt l.ticks ticks) (lead ticks at) l

abbrev pub with_channels : Trace → Channel → Channel → Trace
with_channels s a b =
    record {
      samples = s.samples + 1;
      first = a;
      second = b;
      first_leads = raised s.first_leads (a.total - b.total) s.samples;
      second_leads = raised s.second_leads (b.total - a.total) s.samples;
    }

abbrev pub sampled : Trace → ℕ → ℕ → Trace
sampled s x y = with_channels s (counted s.first x) (counted s.second y)

abbrev pub with_lasts : Trace → ℕ → ℕ → Trace
with_lasts s x y =
    record {
      samples = s.samples;
      first = channel s.first.total x;
      second = channel s.second.total y;
      first_leads = s.first_leads;
      second_leads = s.second_leads;
    }

-- the first sample of all follows itself
abbrev pub begun : Trace → ℕ → ℕ → Trace
begun s x y = cond (s.samples == 0) (with_lasts s x y) s

-- rows of one length that the trace has room for
pub record Fits (s : Trace) (xs ys : List ℕ) : Type 0 where
  pub as_long : length xs ≡ length ys
  pub room : s.samples + length xs ≤ MOST
