-- `replay::block::feed_block` meets its contract: `Written` is what holds between two samples.
use mathlib.Core.Path.{◌≡◌}
use Rattle.std.specs.Iterator.Adapters.{enumerate_source, enumerate_count}
use Rattle.std.specs.Slice.Iter.{chunks_exact_rest, chunks_exact_size}
use Rattle.replay.proofs.Splitting.{Written}
use Rattle.replay.proofs.block.feed_block.Given as goal

abbrev pub invariant-loop-i : goal.invariant-loop-i
invariant-loop-i l =
    let chunks = enumerate_source l.i-iterator in
    (chunks_exact_size chunks ≡ 4) × Written l.block l.first l.second (chunks_exact_rest chunks) (enumerate_count l.i-iterator)
