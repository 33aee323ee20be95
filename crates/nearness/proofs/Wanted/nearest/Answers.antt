-- `nearness::Wanted::nearest` meets its contract: of each row the nearer pair stays, and the search ends after the last row or at an exact
-- hit.
-- Assumes nothing.
use native.Mathlib.Omega.{arith}
use Rattle.nearness.proofs.Search.{all, same, better}
use Rattle.nearness.proofs.Wanted.nearest.Goals as goal
use Rattle.nearness.proofs.Wanted.nearest.Goals.{then-row-best, else-row-best}

pub loop-div0-preserved : goal.loop-div0-preserved
loop-div0-preserved c =
    let tried = c.loop-div0.invariant in
    let row = c.nearest_in_row-row.ensures in
    elim c.if-row-best.branch [
      | then-row-best w ↦ rw w.best-is (better tried (omega arith) row.row row.first (omega arith))
      | else-row-best w ↦ rw w.best-is (same tried (omega arith) row.row (omega arith))
    ]

pub returns-after-row-best : goal.returns-after-row-best
returns-after-row-best c =
    let tried = c.loop-div0.invariant in
    let row = c.nearest_in_row-row.ensures in
    elim c.if-row-best.branch [
      | then-row-best w ↦ rw w.best-is (all (better tried (omega arith) row.row row.first (omega arith)) (omega arith))
      | else-row-best w ↦ rw w.best-is (all (same tried (omega arith) row.row (omega arith)) (omega arith))
    ]

pub returns : goal.returns
returns c = all c.loop-div0.invariant (omega arith)
