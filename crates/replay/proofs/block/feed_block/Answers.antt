-- `replay::block::feed_block` meets its contract: `Written` is what holds between two samples.
use mathlib.Core.Path.{◌∙◌}
use native.Mathlib.Omega.{arith}
use Rattle.bounds.proofs.Bound.{kept}
use Rattle.replay.proofs.Splitting.{one_more, taken}
use Rattle.replay.proofs.block.feed_block.Goals as goal

pub loop-i-preserved : goal.loop-i-preserved
loop-i-preserved c =
    let now = c.loop-i.invariant in
    let step = c.in-Some.ensures.steps in
    let chunk = step.0 in (
      chunk.0 ∙ now.0,
      one_more now.1 c.in-Some.sample.now _ (omega arith) chunk.1.0 (chunk.1.1 ∙ now.0) step.1 step.2 c.from_le_bytes.ensures
          c.from_le_bytes-in-loop-i.ensures,
    )

pub returns : goal.returns
returns c =
    let now = c.loop-i.invariant in
    let step = c.in-None.ensures.steps in
    kept (omega arith) (taken now.1 (omega (arith, now.0, step.0.1.0)) (omega arith) c.feed-fed.ensures)
