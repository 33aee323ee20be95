-- `replay::read::read_blocks` meets its contract.
use native.Mathlib.Omega.{arith}
use Rattle.std.proofs.lemmas.Result.{err_from_is_err_and}
use Rattle.replay.proofs.Settled.{begun, one_more, ended, stopped, unread}
use Rattle.replay.proofs.read.read_blocks.Goals as goal

pub loop-init : goal.loop-init
loop-init c = (begun c.args.input.now c.default-held.ensures.0 c.default-held.ensures.1, omega arith)

pub returns-in_err-got : goal.returns-in_err-got
returns-in_err-got c =
    let p = err_from_is_err_and c.from_residual.result c.from_residual.ensures.1 in
    rw (p.1, p.2, c.in_err-got.ensures.room) (unread c.loop.input c.loop.invariant.0 (omega (arith, c.loop.held.few)))

pub returns-then-got-eq0 : goal.returns-then-got-eq0
returns-then-got-eq0 c = rw c.at_end.ensures (ended c.loop.input c.loop.invariant.0 (omega (arith, c.loop.held.few)))

pub take_block-requires : goal.take_block-requires
take_block-requires c = omega (arith, c.in_ok-got.ensures.room, c.loop.invariant.1)

pub returns-in_err-held : goal.returns-in_err-held
returns-in_err-held c =
    let p = err_from_is_err_and c.from_residual-in_err-held.result c.from_residual-in_err-held.ensures.1 in
    rw (p.1, p.2) (stopped c.loop.input c.loop.invariant.0 c.fill.new.input c.in_ok-got.got c.fill.ensures.front c.take_block.ensures c.in_err-held.was)

pub loop-preserved : goal.loop-preserved
loop-preserved c = (
  one_more c.loop.input c.loop.invariant.0 c.fill.new.input c.in_ok-got.got c.fill.ensures.front c.take_block.ensures c.in_ok-held.was,
  c.take_block.array_long,
)

pub returns : goal.returns
returns c = rw c.so_far.ensures (unread c.loop.input c.loop.invariant.0 (omega (arith, c.loop.held.few)))
