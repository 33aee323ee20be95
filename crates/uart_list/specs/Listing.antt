-- Document 01's list of viable pairs: in rising bdiv, written into a lent run of records.
use Rattle.std.specs.Prelude.{◌≡◌, ℕ, ◌+◌, ◌<◌, ◌≤◌, Float, length, drop}
use mathlib.Core.List.{List, [], ◌∷◌, ◌++◌, Memᴰ}
use Rattle.refusals.specs.Told.{Told, answered, refused}
use Rattle.refusals.specs.Number.{NO_ROOM}
use Rattle.float32.specs.Whole.{of_whole}
use Rattle.uart_candidate.specs.Candidate.{Viable}
use Rattle.uart_candidate.specs.declared.BaudDivisors.{BaudDivisors}

-- every bdiv is at least k, and above the one before it
pub data Rising : ℕ → List BaudDivisors → Type 0 where
  end : {k : ℕ} → Rising k []
  next : {k : ℕ} {p : BaudDivisors} {ps : List BaudDivisors} → k ≤ p.bdiv → Rising (p.bdiv + 1) ps → Rising k (p ∷ ps)

-- ps has the viable pairs and no others
pub record Viables (reference target : Float) (ps : List BaudDivisors) : Type 0 where
  pub sound : (p : BaudDivisors) → Memᴰ p ps → Viable reference target p
  pub complete : (p : BaudDivisors) → Viable reference target p → Memᴰ p ps
  pub rising : Rising 0 ps

-- how many viable pairs there are
pub record Counts (reference target : Float) (n : ℕ) : Type 0 where
  pub list : List BaudDivisors
  pub viables : Viables reference target list
  pub many : n ≡ length list

-- What is told, and what the lent records are afterwards. More pairs than were lent records for is refusal 9, which says how many
-- there are.
pub data Right (reference target : ℕ) (lent : List BaudDivisors) : Told ℕ → List BaudDivisors → Type 0 where
  listed : (ps : List BaudDivisors) → Viables (of_whole reference) (of_whole target) ps → length ps ≤ length lent
      → Right reference target lent (answered (length ps)) (ps ++ drop (length ps) lent)
  no_room : (ps : List BaudDivisors) → Viables (of_whole reference) (of_whole target) ps → length lent < length ps
      → Right reference target lent (refused NO_ROOM (length ps ∷ [])) lent
