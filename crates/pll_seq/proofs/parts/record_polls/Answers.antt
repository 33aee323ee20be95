-- `parts::record_polls` meets its contract: each poll is recorded, up to the one that shows the lock. Assumes nothing.
use Prim.Native.Nat.{◌-◌}
use mathlib.Core.Path.{refl, sym, ◌∙◌}
use native.Mathlib.Omega.{arith}
use Rattle.std.proofs.lemmas.Result.{err_from_is_err_and}
use Rattle.pll_seq.proofs.Moved.{begins, arrives, goes_as}
use Rattle.pll_seq.proofs.ToCome.{does_poll, all_polls, shows_lock, shows_none, no_poll_left}
use Rattle.pll_seq.proofs.Turning.{may_read, has_read, has_starved, same_rows}
use Rattle.pll_seq.proofs.parts.record_polls.Goals as goal

pub loop-init : goal.loop-init
loop-init c =
    (record { kinds = refl; numbers = refl; values = refl }, goes_as (begins c.requires) (all_polls c.args.plan c.args.limit c.args.recorder.now.words.now))

pub read-requires : goal.read-requires
read-requires c =
    let l = c.loop in
    may_read l.recorder (does_poll c.args.plan (c.args.limit - l.counter) (omega arith)) l.invariant.1

pub returns-in_err-status-clause-goes : goal.returns-in_err-status-clause-goes
returns-in_err-status-clause-goes c =
    let l = c.loop in
    let p = err_from_is_err_and c.from_residual.result c.from_residual.ensures.1 in
    rw (p.1, p.2) (has_starved l.recorder c.read.new.self (does_poll c.args.plan (c.args.limit - l.counter) (omega arith)) l.invariant.1 c.in_err-status.ensures.reads)

pub returns-then-locked-clause-goes : goal.returns-then-locked-clause-goes
returns-then-locked-clause-goes c =
    let l = c.loop in
    let read = has_read l.recorder c.read.new.self (does_poll c.args.plan (c.args.limit - l.counter) (omega arith)) l.invariant.1 c.in_ok-status.ensures.reads in
    arrives read (shows_lock c.args.plan (c.args.limit - l.counter) _ _ (sym c.locked.ensures ∙ c.if-locked.true))

pub loop-preserved : goal.loop-preserved
loop-preserved c =
    let l = c.loop in
    let read = has_read l.recorder c.read.new.self (does_poll c.args.plan (c.args.limit - l.counter) (omega arith)) l.invariant.1 c.in_ok-status.ensures.reads in
    (same_rows l.invariant.0 c.in_ok-status.ensures.same_rows, goes_as read (shows_none c.args.plan c.args.limit l.counter _ _ (sym c.locked.ensures ∙ c.if-locked.false)))

pub returns-clause-goes : goal.returns-clause-goes
returns-clause-goes c =
    let l = c.loop in
    arrives l.invariant.1 (no_poll_left c.args.plan (c.args.limit - l.counter) l.recorder.words.now (omega arith))
