-- `c_ttc::ttc` hands back what the calculation tells. Assumes nothing.
use mathlib.Core.Path.{◌≡◌, refl}
use Rattle.std.proofs.Common.{rules}
use Rattle.c_ttc.specs.Tells.{prescaler_word}
use Rattle.handing.proofs.Exits.{room_left, passed_on}
use Rattle.handing.proofs.Handing.{refuses, answers}
use Rattle.c_ttc.proofs.ttc.Goals as goal

pub returns-in_err-s : goal.returns-in_err-s
returns-in_err-s c =
    refuses (room_left c.room.ensures c.in_ok-room.was) c.in_err-s.ensures refl (passed_on c.from_residual-in_err-s.ensures.1)

pub returns : goal.returns
returns c = let fits = room_left c.room.ensures c.in_ok-room.was in answers fits c.in_ok-s.ensures refl
    (let w = c.put.ensures.fits fits in
    let k : c.map_or-k.result ≡ prescaler_word c.in_ok-s.s.prescaler_reg = search rules in
    (w.0, cc))
