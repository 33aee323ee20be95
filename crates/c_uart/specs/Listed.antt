-- What the UART's list hands back: a number, and the lent records.
use Rattle.std.specs.Prelude.{ℕ, ◌%◌, ◌^◌, List, [], ◌∷◌, Result, Ok, Err}
use Rattle.refusals.specs.Told.{answered, refused}
use Rattle.refusals.specs.Number.{NO_ROOM}
use Rattle.handing.specs.Handed.{code}
use Rattle.uart_candidate.specs.declared.BaudDivisors.{BaudDivisors}
use Rattle.uart_list.specs.declared.NoRoom.{NoRoom}
use Rattle.uart_list.specs.Listing.{Right}

-- How many were written stands above a 0, and how many there are above refusal 9: `Right` says when, and what the records are.
pub data ListHanded (reference baud : ℕ) (before : List BaudDivisors) : ℕ → List BaudDivisors → Type 0 where
  listed : {n : ℕ} {after : List BaudDivisors} → Right reference baud before (answered n) after → ListHanded reference baud before (code 0 (n ∷ [])) after
  no_room : {n : ℕ} {after : List BaudDivisors} → Right reference baud before (refused NO_ROOM (n ∷ [])) after → ListHanded reference baud before (code NO_ROOM (n ∷ [])) after

-- the number of what the list tells: how many were written or are too many, each as far as 32 bits go
abbrev pub coded : Result ℕ NoRoom → ℕ
coded (Ok written) = code 0 (written % 2 ^ 32 ∷ [])
coded (Err e) = code NO_ROOM (e.needed % 2 ^ 32 ∷ [])
