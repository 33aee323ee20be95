-- `desk::line::put_request` meets its contract.
use Rattle.desk.proofs.Lines.{with_newline}
use Rattle.desk.proofs.line.put_request.Goals as goal

pub returns : goal.returns
returns c = with_newline c.put_byte.result c.requires (c.answer_request.ensures.fits c.requires).1 c.put_byte.ensures
