-- `c_clocks::io_update` sets one word, or refuses. Assumes nothing.
use native.Mathlib.Omega.{arith}
use Rattle.handing.proofs.Exits.{no_room_left, passed_on, room_left}
use Rattle.c_clocks.specs.Update.{short, no_such_clock, sets}
use Rattle.c_clocks.proofs.io_update.Goals as goal

pub returns-in_err-room : goal.returns-in_err-room
returns-in_err-room c =
    let p = no_room_left c.room.ensures c.in_err-room.was in
    rw (passed_on c.from_residual.ensures.1, p.1) (short p.0)

pub returns-then-which-gt6 : goal.returns-then-which-gt6
returns-then-which-gt6 c = no_such_clock (room_left c.room.ensures c.in_ok-room.was) c.if-which-gt6.true

pub returns : goal.returns
returns c = sets (room_left c.room.ensures c.in_ok-room.was) (omega arith)
