-- `desk_pll_seq::request::put_plan` meets its contract.
use mathlib.Core.Path.{ap, ◌∙◌}
use native.Mathlib.Omega.{arith}
use Rattle.refusals.specs.Refusal.{number_of}
use Rattle.desk_pll_seq.proofs.Telling.{count_fits, run_said, refusal_said}
use Rattle.desk_pll_seq.proofs.request.put_plan.Goals as goal

pub put_run-requires : goal.put_run-requires
put_run-requires c =
    let few = count_fits c.args.plan c.args.reads.now (record { kinds = omega arith; numbers = omega arith; values = omega arith }) c.in-Ok.ran c.in-Ok.ensures in
    record { room = record { kinds = omega arith; numbers = omega arith; values = omega arith }; n_bound = (omega arith, omega arith) }

pub returns-in-Ok : goal.returns-in-Ok
returns-in-Ok c =
    (c.put_run.ensures.0, run_said c.args.plan c.args.reads.now (record { kinds = omega arith; numbers = omega arith; values = omega arith }) c.in-Ok.ran c.in-Ok.ensures c.put_run.ensures.1)

pub returns-in-Err : goal.returns-in-Err
returns-in-Err c =
    let told = c.put_form.ensures.fits (omega arith) in
    (told.0, refusal_said c.args.plan c.args.reads.now (record { kinds = omega arith; numbers = omega arith; values = omega arith }) c.in-Err.e c.in-Err.ensures (rw (← (c.number.ensures ∙ ap number_of c.from.ensures)) told.1))
