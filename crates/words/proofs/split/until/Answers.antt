-- `words::split::until` meets its contract: behind the near places it is the far search.
use mathlib.Core.Logic.{inl, inr}
use native.Mathlib.Decide.{dec_le}
use native.Mathlib.Omega.{arith}
use Rattle.words.proofs.Splitting.{joined}
use Rattle.words.proofs.split.until.Goals as goal

pub returns : goal.returns
returns c =
    joined c.args.line.now c.args.from c.min-near.result c.args.byte (λ k h. c.loop-at.invariant k (omega arith)) c.far.result (omega arith)
    (elim (dec_le c.args.from c.min-near.result) [ yes le ↦ inl le | no past ↦ inr (omega (arith, c.saturating_add.ensures)) ])
    c.far.ensures
