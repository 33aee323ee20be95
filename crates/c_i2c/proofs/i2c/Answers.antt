-- `c_i2c::i2c` hands back what the search tells. Assumes nothing.
use mathlib.Core.Path.{refl}
use Rattle.handing.proofs.Exits.{room_left, passed_on}
use Rattle.handing.proofs.Handing.{refuses, answers}
use Rattle.c_i2c.proofs.i2c.Goals as goal

pub returns-in_err-c : goal.returns-in_err-c
returns-in_err-c c =
    refuses (room_left c.room.ensures c.in_ok-room.was) (rw c.speed_of.ensures at c.in_err-c.ensures) refl
    (passed_on c.from_residual-in_err-c.ensures.1)

pub returns : goal.returns
returns c =
    let fits = room_left c.room.ensures c.in_ok-room.was in
    answers fits (rw c.speed_of.ensures at c.in_ok-c.ensures) refl (let w = c.put.ensures.fits fits in (w.0, cc))
