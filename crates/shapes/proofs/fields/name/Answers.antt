-- `shapes::fields::name` meets its contract.
use mathlib.Core.Path.{sym, ap, ◌∙◌}
use native.Mathlib.Omega.{arith}
use Rattle.std.specs.Prelude.{Err}
use Rattle.std.proofs.Common.{rules, tests}
use Rattle.std.proofs.lemmas.Result.{err_from_is_err_and}
use Rattle.words.proofs.Splitting.{place_below}
use Rattle.shapes.proofs.Field.{no_name, some_name, went_on}
use Rattle.shapes.proofs.fields.name.Goals as goal

pub returns-then-is_empty : goal.returns-then-is_empty
returns-then-is_empty c = no_name _ _ (search (rules, tests))

pub overflow_cast-result : goal.overflow_cast-result
overflow_cast-result c = omega (arith, place_below _ _ (sym c.place.ensures ∙ went_on _ (sym c.ok_or.ensures.value ∙ c.in_ok-place.was)))

pub returns-in_err-place : goal.returns-in_err-place
returns-in_err-place c =
    let p = err_from_is_err_and c.from_residual.result c.from_residual.ensures.1 in
    p.1 ∙ ap Err p.2 ∙ sym c.in_err-place.was ∙ some_name _ _ (search (rules, tests)) c.ok_or.ensures.value c.place.ensures

pub returns : goal.returns
returns c = sym c.in_ok-place.was ∙ some_name _ _ (search (rules, tests)) c.ok_or.ensures.value c.place.ensures
