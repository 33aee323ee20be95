-- `words::split::until` meets its contract: the byte stands nowhere from `from` up to the place that is looked at.
use Rattle.std.proofs.Common.{◌≡◌, ℕ, ◌+◌, ◌-◌, ◌<◌}
use lib.ListN.{get_or}
use Rattle.words.proofs.split.until.Given as goal

abbrev pub invariant-loop-at : goal.invariant-loop-at
invariant-loop-at l = (k : ℕ) → k < l.at - l.from → get_or l.line (l.from + k) 0 ≡ l.byte → ⊥
