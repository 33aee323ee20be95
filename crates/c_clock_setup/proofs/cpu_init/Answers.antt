-- `c_clock_setup::cpu_init` hands back what the pure part tells. Assumes nothing.
use mathlib.Core.Path.{refl}
use Rattle.clock_setup.proofs.Laws.{as_refusal}
use Rattle.handing.proofs.Exits.{room_left, passed_on}
use Rattle.handing.proofs.Handing.{refuses, answers}
use Rattle.c_clock_setup.proofs.cpu_init.Goals as goal

pub returns-in_err-c : goal.returns-in_err-c
returns-in_err-c c =
    let fits = room_left c.room.ensures c.in_ok-room.was in
    refuses fits (rw c.ratio_of.ensures at c.in_err-c.ensures) (as_refusal _) (passed_on c.from_residual-in_err-c.ensures.1)

pub returns : goal.returns
returns c =
    let fits = room_left c.room.ensures c.in_ok-room.was in
    answers fits (rw c.ratio_of.ensures at c.in_ok-c.ensures) refl (c.put.ensures.fits fits)
