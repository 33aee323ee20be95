-- What the UART's list hands back follows from how the records were filled, or from why they were not. Assumes nothing.
use mathlib.Core.Path.{◌≡◌, refl, ap, subst}
use mathlib.Core.List.{List, [], ◌∷◌}
use Prim.Native.Nat.{ℕ, ◌^◌, ◌<◌}
use native.Mathlib.Nat.{mod-eq_of_lt}
use native.Mathlib.Omega.{arith}
use lib.Ieee.{Float}
use lib.ListN.{length}
use Rattle.std.specs.Prelude.{Ok, Err}
use Rattle.refusals.specs.Told.{Told, answered, refused}
use Rattle.uart_candidate.specs.Range.{LAST}
use Rattle.uart_candidate.specs.Candidate.{wanted}
use Rattle.uart_candidate.specs.declared.BaudDivisors.{BaudDivisors}
use Rattle.uart_candidate.specs.declared.Wanted.{Wanted}
use Rattle.uart_list.specs.declared.NoRoom.{NoRoom}
use Rattle.uart_list.specs.Listing.{Viables}
use Rattle.uart_list.specs.Listing as Right
use Rattle.uart_list.specs.Room.{Roomy, too_few}
use Rattle.uart_list.proofs.Laws.{few}
use Rattle.uart_list.proofs.Filling.{Filling, finished, unique as one_list}
use Rattle.handing.specs.Handed.{code}
use Rattle.c_uart.specs.Listed.{ListHanded, coded}

short : {n : ℕ} {reference target : Float} {ps : List BaudDivisors} → Viables reference target ps → n ≡ length ps → n < 2 ^ 32
short v e = omega (arith, few _ _ v)

module _ {reference baud : ℕ} {ys : List BaudDivisors} {w : Wanted} (a : w ≡ wanted reference baud) where
  pub full : {xs : List BaudDivisors} {k n : ℕ} → LAST < k → Filling w.reference w.target ys xs k n → ListHanded reference baud ys (coded (Ok n)) xs
  full {xs} {k} {n} l f =
      let h = subst (λ (v : Wanted). Filling v.reference v.target ys xs k n) a f in
      let e = finished l h in
      rw (e.1, mod-eq_of_lt {n = n} {m = 2 ^ 32} (short h.viables e.0), e.0) (ListHanded.listed (Right.listed h.list h.viables h.room))

  pub not_begun : {e : NoRoom} → Roomy w.reference w.target (length ys) (Err e) → ListHanded reference baud ys (coded (Err e)) ys
  not_begun {e} r = go (subst (λ (v : Wanted). Roomy v.reference v.target (length ys) (Err e)) a r)
    where
      go : {e : NoRoom} → Roomy (wanted reference baud).reference (wanted reference baud).target (length ys) (Err e) → ListHanded reference baud ys (coded (Err e)) ys
      go (too_few ps v l) = rw (mod-eq_of_lt {n = length ps} {m = 2 ^ 32} (short v refl)) (ListHanded.no_room (Right.no_room ps v l))

-- ---- one number to each question, and one content of the lent records
abbrev code_of : Told ℕ → ℕ
code_of (answered n) = code 0 (n ∷ [])
code_of (refused number carried) = code number carried

pub unique : {reference baud c d : ℕ} {before xs zs : List BaudDivisors} → ListHanded reference baud before c xs → ListHanded reference baud before d zs → (c ≡ d) × (xs ≡ zs)
unique (ListHanded.listed p) (ListHanded.listed q) = let s = one_list p q in (ap code_of s.0, s.1)
unique (ListHanded.listed p) (ListHanded.no_room q) = let s = one_list p q in (ap code_of s.0, s.1)
unique (ListHanded.no_room p) (ListHanded.listed q) = let s = one_list p q in (ap code_of s.0, s.1)
unique (ListHanded.no_room p) (ListHanded.no_room q) = let s = one_list p q in (ap code_of s.0, s.1)
