-- What the search begins with. What it promises its callers is `Best.antt`.
use Rattle.std.specs.Prelude.{◌≤◌, Float, Option, Some, None}
use Rattle.uart_candidate.specs.Candidate.{Candidate}
use Rattle.uart_candidate.specs.declared.BaudDivisors.{BaudDivisors}

-- the candidate with the least bdiv, or that there is none
pub data First (reference target : Float) : Option BaudDivisors → Type 0 where
  found : {p : BaudDivisors} → Candidate reference target p → ((q : BaudDivisors) → Candidate reference target q → p.bdiv ≤ q.bdiv) → First reference target (Some p)
  nowhere : ((q : BaudDivisors) → Candidate reference target q → ⊥) → First reference target None
