-- What is wrong is short.
use Prim.Native.Nat.{ℕ, ◌+◌, ◌≤◌}
use mathlib.Core.Path.{◌≡◌}
use mathlib.Core.List.{List, [], ◌∷◌}
use native.Mathlib.Omega.{arith}
use lib.Dec.{lit≤}
use lib.ListN.{length}
use Rattle.std.specs.Prelude.{Result, IsOk}
use Rattle.text.specs.Bytes.{bytes}
use Rattle.text.specs.Page.{Contents}
use Rattle.text.specs.Put.{InRoom}
use Rattle.text.specs.declared.page.Full.{Full}
use Rattle.forms.specs.Form.{printed, most}
use Rattle.forms.specs.Says.{Said}
use Rattle.forms.proofs.Saying.{within, both, room_after}
use Rattle.shapes.specs.declared.fields.Fault.{Fault}
use Rattle.desk_faults.specs.Complaint.{wrong, complaint}

short : (f : Fault) → most (wrong f) ≤ 50
short Fault.Missing = lit≤ tt
short Fault.Empty = lit≤ tt
short Fault.NotANumber = lit≤ tt
short Fault.TooLarge = lit≤ tt
short Fault.NotEightDigits = lit≤ tt
short Fault.OneTooMany = lit≤ tt
short Fault.NoSuchName = lit≤ tt

pub complained : (word : ℕ) (f : Fault) {form : List ℕ} {before middle after : Contents} (q r : Result Unit Full) → 100 ≤ length before.rest → form ≡ wrong f →
    InRoom 29 (Said 29 (printed (bytes "bad_line:_word_#_is_") (word ∷ []))) before middle q → InRoom (most form) (Said (most form) (printed form (word ∷ []))) middle after r →
    IsOk r × Said 100 (complaint word f) before after
unfolding complaint
complained word f q r room is p t =
    let head = (p.fits (omega arith)).1 in
    let tail = (rw is at t).fits (omega (arith, short f, room_after head 50 (omega arith))) in
    (tail.0, within (29 + most (wrong f)) (omega (arith, short f)) (both head tail.1))
