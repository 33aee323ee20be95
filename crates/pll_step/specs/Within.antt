-- What the two halves of a step promise one another: the word is taken in, and then the next row is asked for.
use Rattle.std.specs.Prelude.{ℕ}
use Rattle.pll_rows.specs.Sequence.{sequence}
use Rattle.pll_rows.specs.declared.PllPlan.{PllPlan}
use Rattle.pll_step.specs.declared.PllSequence.{PllSequence}
use Rattle.pll_step.specs.declared.Step.{Step}
use Rattle.pll_step.specs.Step.{Asking, told, received, ask}

abbrev pub received_by : PllSequence → ℕ → PllSequence
received_by s x = record { plan = s.plan; place = received (sequence s.plan) s.place x }

pub record Asks : Type 0 where
  pub asking : Asking
  pub plan : PllPlan

abbrev pub asks : PllSequence → Asks
asks s = record { asking = ask (sequence s.plan) s.place; plan = s.plan }

abbrev pub tell : Step → Asks
tell r = record { asking = record { asked = told r.request; place = r.next.place }; plan = r.next.plan }
