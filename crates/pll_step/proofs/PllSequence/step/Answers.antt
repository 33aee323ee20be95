-- `pll_step::PllSequence::step` meets its contract. Assumes nothing.
use mathlib.Core.Path.{ap, ◌∙◌}
use Rattle.pll_step.specs.Within.{Asks, asks}
use Rattle.pll_step.proofs.PllSequence.step.Goals as goal

pub returns : goal.returns
returns c =
    let asked = c.ask.ensures ∙ ap asks c.received.ensures in
    record {
      asked = ap (λ (a : Asks). a.asking.asked) asked;
      place = ap (λ (a : Asks). a.asking.place) asked;
      plan = ap (λ (a : Asks). a.plan) asked;
    }
