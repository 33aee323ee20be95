-- `parts::record_opening` meets its contract: each row before the polls is recorded. Assumes nothing.
use Prim.Native.Nat.{ℕ, ◌+◌}
use mathlib.Core.List.{List}
use mathlib.Core.Path.{ap, refl, sym, ◌∙◌}
use native.Mathlib.Omega.{arith}
use Rattle.std.proofs.lemmas.Result.{err_from_is_err_and}
use Rattle.pll_rows.specs.Sequence.{after, a_write}
use Rattle.pll_seq.specs.Moves.{to_come}
use Rattle.pll_seq.proofs.Moved.{begins, arrives, for_next}
use Rattle.pll_seq.proofs.ToCome.{does_read, does_write, not_past, at_the_polls}
use Rattle.pll_seq.proofs.Turning.{may_read, has_read, has_starved, has_put, same_rows}
use Rattle.pll_seq.proofs.parts.record_opening.Goals as goal
use Rattle.pll_seq.proofs.parts.record_opening.Goals.{in-Read+in_ok-word-in-Read, in-Write}

pub loop-at-init : goal.loop-at-init
loop-at-init c = (record { kinds = refl; numbers = refl; values = refl }, begins c.requires)

pub read-requires : goal.read-requires
read-requires c =
    let l = c.loop-at in
    may_read l.recorder (does_read c.args.plan l.at c.args.limit l.word _ c.row.ensures c.in-Read.is) l.invariant.1

pub returns-in_err-word-in-Read-clause-goes : goal.returns-in_err-word-in-Read-clause-goes
returns-in_err-word-in-Read-clause-goes c =
    let l = c.loop-at in
    let p = err_from_is_err_and c.from_residual.result c.from_residual.ensures.1 in
    rw (p.1, p.2) (has_starved l.recorder c.read.new.self (does_read c.args.plan l.at c.args.limit l.word _ c.row.ensures c.in-Read.is) l.invariant.1 c.in_err-word-in-Read.ensures.reads)

pub put-requires : goal.put-requires
put-requires c =
    let l = c.loop-at in
    for_next l.invariant.1 (does_write c.args.plan l.at c.args.limit l.word _ c.row.ensures c.in-Write.is _)

pub unreachable-requires : goal.unreachable-requires
unreachable-requires c =
    let l = c.loop-at in
    not_past c.args.plan l.at c.args.limit l.word _ c.row.ensures (omega arith) c.in-Poll.is

pub loop-at-preserved : goal.loop-at-preserved
loop-at-preserved c =
    let l = c.loop-at in
    elim c.match-row.branch [
      | in-Read+in_ok-word-in-Read w ↦
          rw (w.recorder-is, w.word-is) (
            same_rows l.invariant.0 w.in_ok-word-in-Read.ensures.same_rows,
            has_read l.recorder w.read.new.self (does_read c.args.plan l.at c.args.limit l.word _ c.row.ensures w.in-Read.is) l.invariant.1 w.in_ok-word-in-Read.ensures.reads,
          )
      | in-Write w ↦
          rw (w.recorder-is, w.word-is) (
            same_rows l.invariant.0 w.put.ensures.same_rows,
            has_put l.recorder w.put.new.self l.invariant.1 (does_write c.args.plan l.at c.args.limit l.word _ c.row.ensures w.in-Write.is _ ∙ ap (λ (words : List ℕ). after (a_write w.in-Write.number w.in-Write.value) (to_come c.args.plan (l.at + 1) c.args.limit w.in-Write.value words)) (sym w.put.ensures.words)) w.put.ensures.puts,
          )
    ]

pub returns-clause-goes : goal.returns-clause-goes
returns-clause-goes c =
    let l = c.loop-at in
    arrives l.invariant.1 (at_the_polls c.args.plan l.at c.args.limit l.word l.recorder.words.now (omega arith))
