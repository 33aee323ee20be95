-- `c_pll_settings::pll_target` hands back what the table tells. Assumes nothing.
use mathlib.Core.Path.{refl}
use Rattle.handing.proofs.Exits.{room_left, passed_on}
use Rattle.handing.proofs.Handing.{refuses, answers}
use Rattle.c_pll_settings.proofs.pll_target.Goals as goal

pub returns-in_err-s : goal.returns-in_err-s
returns-in_err-s c =
    refuses (room_left c.room.ensures c.in_ok-room.was) c.in_err-s.ensures refl (passed_on c.from_residual-in_err-s.ensures.1)

pub returns : goal.returns
returns c =
    let fits = room_left c.room.ensures c.in_ok-room.was in
    answers fits c.in_ok-s.ensures refl (rw c.words.ensures at (c.put.ensures.fits (rw c.words.ensures fits)))
