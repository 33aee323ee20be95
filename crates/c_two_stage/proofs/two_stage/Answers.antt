-- `c_two_stage::two_stage` hands back what the search tells. Assumes nothing.
use mathlib.Core.Path.{refl}
use Rattle.handing.proofs.Exits.{room_left, passed_on}
use Rattle.handing.proofs.Handing.{refuses, answers}
use Rattle.c_two_stage.proofs.two_stage.Goals as goal

pub returns-in_err-p : goal.returns-in_err-p
returns-in_err-p c =
    refuses (room_left c.room.ensures c.in_ok-room.was) c.in_err-p.ensures refl (passed_on c.from_residual-in_err-p.ensures.1)

pub returns : goal.returns
returns c = let fits = room_left c.room.ensures c.in_ok-room.was in answers fits c.in_ok-p.ensures refl (c.put.ensures.fits fits)
