-- `parts::record_parts` meets its contract: its parts follow one another. Assumes nothing.
use Rattle.std.proofs.lemmas.Result.{err_from_is_err_and}
use Rattle.pll_seq.specs.Moves.{locks}
use Rattle.pll_seq.proofs.Moved.{enough, then}
use Rattle.pll_seq.proofs.Turning.{goes_then}
use Rattle.pll_seq.proofs.parts.record_parts.Goals as goal

pub record_polls-requires : goal.record_polls-requires
record_polls-requires c = enough c.requires c.in_ok-record_opening.ensures.goes

pub returns-in_err-record_polls-clause-goes : goal.returns-in_err-record_polls-clause-goes
returns-in_err-record_polls-clause-goes c =
    let p = err_from_is_err_and c.from_residual-in_err-record_polls.result c.from_residual-in_err-record_polls.ensures.1 in
    rw (p.1, p.2) (then c.in_ok-record_opening.ensures.goes c.in_err-record_polls.ensures.goes)

pub record_closing-requires : goal.record_closing-requires
record_closing-requires c =
    enough c.requires (then c.in_ok-record_opening.ensures.goes c.in_ok-record_polls.ensures.goes)

pub returns-clause-goes : goal.returns-clause-goes
returns-clause-goes c =
    goes_then c.args.recorder.now c.record_polls.new.recorder c.record_closing.new.recorder locks (then c.in_ok-record_opening.ensures.goes c.in_ok-record_polls.ensures.goes) c.record_closing.result c.record_closing.ensures.goes
