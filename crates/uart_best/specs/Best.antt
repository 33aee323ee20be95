-- Document 01's best pair: the least error, the first bdiv on a tie; or no pair.
use Rattle.std.specs.Prelude.{[], ℕ, ◌≤◌, Float, T, Result, Ok, Err}
use Rattle.std.specs.Float.Ieee.{le, eq}
use Rattle.float32.specs.Whole.{of_whole}
use Rattle.refusals.specs.Told.{Told, answered, refused}
use Rattle.refusals.specs.Number.{NO_PAIR}
use Rattle.refusals.specs.Refusal.{told as told_of}
use Rattle.refusals.specs.declared.Refusal.{Refusal}
use Rattle.refusals.specs.declared.Refusal.TheVariants as refusal
use Rattle.uart_candidate.specs.Candidate.{Candidate}
use Rattle.uart_candidate.specs.declared.BaudDivisors.{BaudDivisors}
use Rattle.uart_best.specs.declared.NoPair.{NoPair}

-- the refusal that the error is
abbrev pub refusal_of : NoPair → Refusal
refusal_of e = refusal.NoPair

abbrev pub told : Result BaudDivisors NoPair → Told BaudDivisors
told (Ok p) = answered p
told (Err e) = told_of (Err (refusal_of e))

pub record Best (reference target : Float) (p : BaudDivisors) : Type 0 where
  pub candidate : Candidate reference target p
  pub least : (q : BaudDivisors) → Candidate reference target q → T (le p.error q.error)
  pub first : (q : BaudDivisors) → Candidate reference target q → T (eq p.error q.error) → p.bdiv ≤ q.bdiv

pub data Right (reference target : ℕ) : Told BaudDivisors → Type 0 where
  best : (p : BaudDivisors) → Best (of_whole reference) (of_whole target) p → Right reference target (answered p)
  no_pair : ((p : BaudDivisors) → Candidate (of_whole reference) (of_whole target) p → ⊥) → Right reference target (refused NO_PAIR [])
