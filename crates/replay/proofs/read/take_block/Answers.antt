-- `replay::read::take_block` meets its contract.
use mathlib.Core.Path.{refl}
use Prim.Native.Nat.{◌+◌}
use native.Mathlib.Omega.{arith}
use Rattle.std.proofs.lemmas.Result.{err_from_is_err_and}
use Rattle.replay.proofs.Turning.{no_more, few, goes_on}
use Rattle.replay.proofs.read.take_block.Goals as goal

pub returns-in_err-trace : goal.returns-in_err-trace
returns-in_err-trace c =
    let p = err_from_is_err_and c.from_residual.result c.from_residual.ensures.1 in
    rw (p.1, p.2) (no_more c.args.held.trace c.args.input.now (c.args.held.count + c.args.got) (omega arith) (omega arith) c.feed_block.ensures c.unwrap-taken.ensures c.in_err-trace.was)

pub invariant_of-result : goal.invariant_of-result
invariant_of-result c =
    record { few = few c.args.held.trace c.args.input.now (c.args.held.count + c.args.got) (omega arith) (omega arith) c.feed_block.ensures c.unwrap-taken.ensures c.keep-count.ensures }

pub returns : goal.returns
returns c =
    goes_on c.args.held.trace c.args.input.now (c.args.held.count + c.args.got) (omega arith) (omega arith) c.feed_block.ensures c.unwrap-taken.ensures c.keep-count.ensures
    c.in_ok-trace.was refl
