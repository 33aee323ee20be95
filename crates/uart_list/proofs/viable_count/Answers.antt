-- A baud divider adds one viable pair at most; after the last all are counted.
use Rattle.std.proofs.Common.{sym, ◌∙◌}
use native.Mathlib.Omega.{arith}
use Rattle.uart_list.proofs.Laws.{begun, one_more, no_more, total}
use Rattle.uart_list.proofs.viable_count.Goals as goal
use Rattle.uart_list.proofs.viable_count.Goals.{then-is_some, else-is_some}

pub loop-bdiv-init : goal.loop-bdiv-init
loop-bdiv-init c = record { few = omega arith; tally = begun _ _ }

pub loop-bdiv-preserved : goal.loop-bdiv-preserved
loop-bdiv-preserved c =
    let i = c.loop-bdiv.invariant in
    elim c.if-is_some.branch [
      | then-is_some w ↦ rw w.count-is record { few = omega (arith, i.few); tally = one_more _ _ (sym c.is_some.ensures ∙ w.if-is_some.true) c.viable.ensures i.tally }
      | else-is_some w ↦ rw w.count-is record { few = omega (arith, i.few); tally = no_more _ _ (sym c.is_some.ensures ∙ w.if-is_some.false) c.viable.ensures i.tally }
    ]

pub returns : goal.returns
returns c = total _ _ c.loop-bdiv-test.false c.loop-bdiv.invariant.tally
