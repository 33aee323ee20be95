-- `replay::read::read_blocks` meets its contract.
use mathlib.Core.Path.{◌≡◌}
use lib.ListN.{length}
use Rattle.replay.specs.Block.{BLOCK}
use Rattle.replay.proofs.Settled.{Reading}
use Rattle.replay.proofs.read.read_blocks.Given as goal

abbrev pub invariant-loop : goal.invariant-loop
invariant-loop l = Reading l.input l.held × (length l.input ≡ BLOCK)
