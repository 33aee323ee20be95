-- `pll_seq::run` meets its contract. Assumes nothing.
use mathlib.Core.Logic.{inl, inr}
use borrow.Author.Rules.{rules}
use Rattle.pll_seq.specs.Record.{rows, Room, most, no_room}
use Rattle.pll_seq.proofs.Few.{surely, answers_in}
use Rattle.pll_seq.proofs.run.Goals as goal
use Rattle.pll_seq.proofs.run.Goals.{then-kinds-needed-via-then-kinds-needed, then-kinds-needed-via-else-kinds-needed+then-numbers-needed, then-kinds-needed-via-else-kinds-needed+else-numbers-needed+then-values-needed}

pub returns-then-kinds-needed : goal.returns-then-kinds-needed
returns-then-kinds-needed c =
    elim c.then-kinds-needed.branch [
      | then-kinds-needed-via-then-kinds-needed w ↦ no_room (inl w.if-kinds-needed.true)
      | then-kinds-needed-via-else-kinds-needed+then-numbers-needed w ↦ no_room (inr (inl w.if-numbers-needed.true))
      | then-kinds-needed-via-else-kinds-needed+else-numbers-needed+then-values-needed w ↦ no_room (inr (inr w.if-values-needed.true))
    ]

pub record-end-requires : goal.record-end-requires
record-end-requires c =
    let a = c.args in
    surely a.plan a.limit a.words.now
    (record { kinds = c.if-kinds-needed.false; numbers = c.if-numbers-needed.false; values = c.if-values-needed.false })

pub returns : goal.returns
returns c =
    let a = c.args in
    let room : Room (most a.words.now) (rows a.kinds.now a.numbers.now a.values.now) =
    record { kinds = c.if-kinds-needed.false; numbers = c.if-numbers-needed.false; values = c.if-values-needed.false } in
    answers_in a.plan a.limit a.words.now room c.record-end.ensures.turns (search rules) (search rules) (search rules)
