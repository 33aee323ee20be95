-- `c_gem::gem` hands back what the GEM clock tells. Assumes nothing.
use mathlib.Core.Path.{refl}
use Rattle.bounds.proofs.Bound.{kept}
use Rattle.handing.proofs.Exits.{room_left, passed_on}
use Rattle.handing.proofs.Handing.{refuses, answers}
use Rattle.c_gem.proofs.gem.Goals as goal

pub returns-in_err-hertz : goal.returns-in_err-hertz
returns-in_err-hertz c =
    kept (room_left c.room.ensures c.in_ok-room.was)
    (refuses (room_left c.room-2.ensures c.in_ok-room-2.was) (rw c.module.ensures at c.in_err-hertz.ensures) refl
    (passed_on c.from_residual-in_err-hertz.ensures.1))

pub returns : goal.returns
returns c =
    let fits = room_left c.room-2.ensures c.in_ok-room-2.was in
    kept (room_left c.room.ensures c.in_ok-room.was)
    (answers fits (rw c.module.ensures at c.in_ok-hertz.ensures) refl (c.put.ensures.fits fits))
