-- `c_ratios::ratios` hands back what the check call tells. Assumes nothing.
use mathlib.Core.Path.{refl}
use native.Mathlib.Omega.{arith}
use Rattle.handing.proofs.Exits.{room_left, passed_on}
use Rattle.handing.proofs.Handing.{refuses, answers}
use Rattle.c_ratios.proofs.Laws.{as_refusal, long, table_or_refusal}
use Rattle.c_ratios.proofs.ratios.Goals as goal

pub returns-in_err-table : goal.returns-in_err-table
returns-in_err-table c =
    refuses (room_left c.room.ensures c.in_ok-room.was) (table_or_refusal _ _ c.in_err-table.ensures) (as_refusal _)
    (passed_on c.from_residual-in_err-table.ensures.1)

pub returns : goal.returns
returns c =
    let fits = room_left c.room.ensures c.in_ok-room.was in
    let told = table_or_refusal _ _ c.in_ok-table.ensures in
    let put = rw (c.as_flattened.ensures.value, c.table_words.ensures) at c.put.ensures in
    answers fits told refl (put.fits (omega (arith, long _ _ told)))
