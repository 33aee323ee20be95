-- `nearness::Wanted::nearest` meets its contract. The invariant: the pair is the nearest of the rows before div0.
-- Assumes nothing.
use Prim.Native.Nat.{◌*◌, ◌/◌}
use Rattle.nearness.proofs.Search.{Tried}
use Rattle.nearness.proofs.Wanted.nearest.Given as goal

abbrev pub invariant-loop-div0 : goal.invariant-loop-div0
invariant-loop-div0 l =
    Tried (λ d0 d1. l.self.reference / (d0 * d1)) l.self.target l.self.firsts l.self.seconds l.div0 l.best.div0 l.best.div1 l.best.diff
