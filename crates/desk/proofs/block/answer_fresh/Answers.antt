-- `desk::block::answer_fresh` meets its contract.
use lib.ListN.{length}
use Rattle.text.specs.Page.{contents}
use Rattle.words.specs.Words.{part}
use native.Mathlib.Omega.{arith}
use Rattle.std.proofs.lemmas.Result.{err_from_is_err_and}
use Rattle.desk.specs.Block.{Block}
use Rattle.desk.proofs.Stepping.{was_written, was_full, all_lines, some_lines, no_room, a_long_line}
use Rattle.desk.proofs.block.answer_fresh.Goals as goal

pub returns-in_err-used : goal.returns-in_err-used
returns-in_err-used c =
    let p = err_from_is_err_and c.from_residual.result c.from_residual.ensures.1 in
    rw (p.1, p.2) (some_lines c.answer_lines.ensures c.in_err-used.was)

pub returns-then-input-used-le-KEPT : goal.returns-then-input-used-le-KEPT
returns-then-input-used-le-KEPT c =
    let l = all_lines c.answer_lines.ensures c.in_ok-used.was in
    Block.done l.0 c.if-input-used-le-KEPT.true l.1

pub returns-in_default : goal.returns-in_default
returns-in_default c =
    let l = all_lines c.answer_lines.ensures c.in_ok-used.was in
    let f = was_full (part c.args.input.now c.in_ok-used.used (length c.args.input.now)) (contents c.answer_lines.new.page) (contents c.answer_line.new.page) c.answer_line.result c.answer_line.ensures c.in_default.is in
    Block.full (no_room l.0 f) f.0

pub returns : goal.returns
returns c =
    let l = all_lines c.answer_lines.ensures c.in_ok-used.was in
    a_long_line l.0 l.1 (omega (arith, c.if-input-used-le-KEPT.false))
    (was_written (part c.args.input.now c.in_ok-used.used (length c.args.input.now)) (contents c.answer_lines.new.page) (contents c.answer_line.new.page) c.answer_line.result c.answer_line.ensures c.in-Ok.is)
