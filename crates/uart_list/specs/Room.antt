-- Whether the lent records are enough for the viable pairs.
use Rattle.std.specs.Prelude.{◌<◌, ◌≤◌, ◌%◌, ◌^◌, ℕ, List, Float, length, Result, Ok, Err}
use Rattle.uart_candidate.specs.declared.BaudDivisors.{BaudDivisors}
use Rattle.uart_list.specs.declared.NoRoom.{NoRoom}
use Rattle.uart_list.specs.Listing.{Viables}
use Rattle.refusals.specs.declared.Refusal.{Refusal}
use Rattle.refusals.specs.declared.Refusal.TheVariants as refusal

-- the refusal that the error is, as far as 32 bits go
abbrev pub refusal_of : NoRoom → Refusal
refusal_of e = refusal.NoRoom (e.needed % 2 ^ 32)

-- where the viable pairs outnumber the records, the error says how many they are
pub data Roomy (reference target : Float) (lent : ℕ) : Result (Unit {0}) NoRoom → Type 0 where
  enough : (ps : List BaudDivisors) → Viables reference target ps → length ps ≤ lent → Roomy reference target lent (Ok tt)
  too_few : (ps : List BaudDivisors) → Viables reference target ps → lent < length ps → Roomy reference target lent (Err record { needed = length ps })
