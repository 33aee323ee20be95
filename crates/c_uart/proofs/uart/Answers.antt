-- `c_uart::uart` hands back what the search tells.
use mathlib.Core.List.{◌∷◌}
use mathlib.Core.Path.{refl, ap, ◌∙◌}
use Prim.Native.Nat.{ℕ}
use lib.ListN.{drop}
use Rattle.handing.proofs.Exits.{room_left, passed_on}
use Rattle.handing.proofs.Handing.{refuses, answers}
use Rattle.c_uart.proofs.uart.Goals as goal

pub returns-in_err-p : goal.returns-in_err-p
returns-in_err-p c =
    refuses (room_left c.room.ensures c.in_ok-room.was) c.in_err-p.ensures refl (passed_on c.from_residual-in_err-p.ensures.1)

pub returns : goal.returns
returns c =
    let fits = room_left c.room.ensures c.in_ok-room.was in
    let w = c.put.ensures.fits fits in
    let p = c.in_ok-p.p in
    answers fits c.in_ok-p.ensures refl
    (w.0, w.1 ∙ ap (λ (bits : ℕ). p.cd ∷ p.bdiv ∷ bits ∷ drop 3 c.args.out.now) c.bits.ensures)
