-- `nearness::Wanted::nearest_in_row` meets its contract where the ideal divisor is 0, where it is at or past the largest, and where the next
-- one is nearer.
-- Assumes nothing.
use native.Mathlib.Omega.{arith}
use Rattle.nearness.proofs.Row.{smallest, greatest, next_wins}
use Rattle.nearness.proofs.Wanted.nearest_in_row.Goals as goal

pub returns-then-ideal-eq0-clause-row : goal.returns-then-ideal-eq0-clause-row
returns-then-ideal-eq0-clause-row c = smallest c.args.self c.requires (omega arith)

pub returns-then-self-ideal-clause-row : goal.returns-then-self-ideal-clause-row
returns-then-self-ideal-clause-row c = greatest c.args.self c.requires (omega arith)

pub returns-then-under-over-clause-row : goal.returns-then-under-over-clause-row
returns-then-under-over-clause-row c = next_wins c.args.self c.requires c.over_sum.ensures (omega arith) (omega arith) (omega arith)
