-- `desk_requests::read_request` understands a line as the table has it. Assumes nothing.
use mathlib.Core.Path.{ap, ◌∙◌}
use Rattle.std.proofs.lemmas.Result.{err_from_is_err_and}
use Rattle.std.specs.Prelude.{Err}
use Rattle.desk_requests.proofs.Asking.{unknown, faulty, understood}
use Rattle.desk_requests.proofs.read_request.Goals as goal

pub returns-in_err-row : goal.returns-in_err-row
returns-in_err-row c =
    let p = err_from_is_err_and c.from_residual.result c.from_residual.ensures.1 in
    unknown c.first_word.ensures _ c.in_err-row.ensures (p.1 ∙ ap (λ x. Err x) p.2)

pub returns-in_err-read_shape : goal.returns-in_err-read_shape
returns-in_err-read_shape c =
    let p = err_from_is_err_and c.from_residual-in_err-read_shape.result c.from_residual-in_err-read_shape.ensures.1 in
    faulty c.first_word.ensures c.in_ok-row.ensures c.read_shape.ensures c.in_err-read_shape.was (p.1 ∙ ap (λ x. Err x) p.2)

pub returns : goal.returns
returns c = understood c.first_word.ensures c.in_ok-row.ensures c.read_shape.ensures c.in_ok-read_shape.was
