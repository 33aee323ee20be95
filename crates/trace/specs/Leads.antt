-- The greatest lead of one channel, and the first sample that reached it.
use Rattle.std.specs.Prelude.{ℕ, ◌+◌, ◌<◌, ◌≤◌}
use Rattle.trace.specs.declared.Lead.{Lead}

abbrev pub lead : ℕ → ℕ → Lead
lead ticks at = record { ticks = ticks; at = at }

-- Of `before` and of n samples more, from number `from` on: `ahead k` is by how many ticks the channel is ahead at sample from + k.
pub data Greatest (ahead : ℕ → ℕ) (from n : ℕ) (before : Lead) : Lead → Type 0 where
  kept : ((k : ℕ) → k < n → ahead k ≤ before.ticks) → Greatest ahead from n before before
  passed : (k : ℕ) → k < n → before.ticks < ahead k → ((j : ℕ) → j < k → ahead j < ahead k) → ((j : ℕ) → j < n → ahead j ≤ ahead k)
      → Greatest ahead from n before (lead (ahead k) (from + k))
