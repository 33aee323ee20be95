-- `parts::record_polls` meets its contract: each poll is recorded, up to the one that shows the lock. Assumes nothing.
use Prim.Native.Nat.{◌-◌}
use Rattle.pll_seq.specs.Recorder.{rows_of, SameRows}
use Rattle.pll_seq.specs.Moves.{to_poll}
use Rattle.pll_seq.proofs.Turning.{Turning}
use Rattle.pll_seq.proofs.parts.record_polls.Given as goal

abbrev pub invariant-loop : goal.invariant-loop
invariant-loop l =
    let start = l.initial.recorder in
    SameRows start l.recorder
    × Turning
    (to_poll l.plan l.limit start.words.now)
    start.count
    (rows_of start)
    (to_poll l.plan (l.limit - l.counter) l.recorder.words.now)
    l.recorder
