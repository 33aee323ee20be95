-- `parts::record_opening` meets its contract: each row before the polls is recorded. Assumes nothing.
use Rattle.pll_seq.specs.Recorder.{rows_of, SameRows}
use Rattle.pll_seq.specs.Moves.{to_come, whole}
use Rattle.pll_seq.proofs.Turning.{Turning}
use Rattle.pll_seq.proofs.parts.record_opening.Given as goal

abbrev pub invariant-loop-at : goal.invariant-loop-at
invariant-loop-at l =
    let start = l.initial.recorder in
    SameRows start l.recorder
    × Turning
    (whole l.plan l.limit start.words.now)
    start.count
    (rows_of start)
    (to_come l.plan l.at l.limit l.word l.recorder.words.now)
    l.recorder
