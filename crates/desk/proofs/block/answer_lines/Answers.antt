-- `desk::block::answer_lines` meets its contract: what was used so far was gone through.
use Rattle.text.specs.Page.{contents}
use Rattle.words.specs.Words.{part}
use Rattle.words.proofs.Parts.{none_in_part}
use Rattle.desk.specs.Block.{LinesOf}
use Rattle.desk.proofs.Stepping.{was_written, was_full, no_lines, a_line, no_room}
use Rattle.desk.proofs.block.answer_lines.Goals as goal

pub loop-end-init : goal.loop-end-init
loop-end-init c = no_lines _ c.requires

pub returns-in_default-answer_line : goal.returns-in_default-answer_line
returns-in_default-answer_line c =
    let f = was_full (part c.args.input.now c.loop-end.used c.in-Some.end) (contents c.loop-end.page) (contents c.answer_line.new.page) c.answer_line.result c.answer_line.ensures c.in_default-answer_line.is in
    LinesOf.full (no_room c.loop-end.invariant f) f.0

pub loop-end-preserved : goal.loop-end-preserved
loop-end-preserved c =
    let u = c.in-Some.ensures in
    a_line c.loop-end.invariant u.0 u.1 (was_written (part c.args.input.now c.loop-end.used c.in-Some.end) (contents c.loop-end.page) (contents c.answer_line.new.page) c.answer_line.result c.answer_line.ensures c.in-Ok.is)

pub returns : goal.returns
returns c = LinesOf.done c.loop-end.invariant (none_in_part (c.in_default.ensures c.loop-end.invariant.within))
