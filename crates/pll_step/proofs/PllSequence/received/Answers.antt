-- `pll_step::PllSequence::received` meets its contract: a poll looks for the PLL's own bit. Assumes nothing.
use mathlib.Core.Path.{ap, sym, ◌∙◌}
use mathlib.Core.Bool.{true, false}
use native.Mathlib.Omega.{arith}
use Rattle.pll_step.specs.declared.Place.{Place}
use Rattle.pll_step.proofs.Places.{polled}
use Rattle.pll_step.proofs.PllSequence.received.Goals as goal

pub returns-in-Poll : goal.returns-in-Poll
returns-in-Poll c =
    let s = c.args.self in
    let seen = sym c.locked.ensures ∙ c.if-locked.true in
    let same = polled s.plan s.place c.args.word _ c.in-Some.last true _ (omega (arith, c.in-Some.ensures)) c.row.ensures c.in-Poll.is seen in
    ap (λ (p : Place). record { plan = s.plan; place = p }) same

pub returns-in-Poll-2 : goal.returns-in-Poll-2
returns-in-Poll-2 c =
    let s = c.args.self in
    let not_seen = sym c.locked.ensures ∙ c.if-locked.false in
    let same = polled s.plan s.place c.args.word _ c.in-Some.last false _ (omega (arith, c.in-Some.ensures)) c.row.ensures c.in-Poll-2.is not_seen in
    ap (λ (p : Place). record { plan = s.plan; place = p }) same
