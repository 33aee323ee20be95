-- Document 01's UART candidates. `reference` and `target` are f32 already, by nearest; each operation rounds once more.
use Rattle.std.specs.Prelude.{◌≡◌, ℕ, ◌+◌, ◌≤◌, Float, T, Option, Some, None}
use Rattle.std.specs.Float.{binary32}
use Rattle.std.specs.Float.Ieee.{of_bits, mul, div, sub, lt}
use Rattle.float32.specs.Whole.{of_whole, to_whole, abs}
use Rattle.uart_candidate.specs.Range.{InRange}
use Rattle.uart_candidate.specs.declared.BaudDivisors.{BaudDivisors}
use Rattle.uart_candidate.specs.declared.Wanted.{Wanted}

-- both numbers as f32
abbrev pub wanted : (reference target : ℕ) → Wanted
wanted reference target = record { reference = of_whole reference; target = of_whole target }

-- the reference over (bdiv + 1) times target; then to a whole number, halves away from zero
abbrev pub clock_divisor : (reference target : Float) → ℕ → ℕ
clock_divisor reference target bdiv = to_whole (div binary32 reference (mul binary32 (of_whole (bdiv + 1)) target))

-- the reference over cd times (bdiv + 1)
abbrev pub actual_baud : (reference : Float) → ℕ → ℕ → Float
actual_baud reference cd bdiv = div binary32 reference (mul binary32 (of_whole cd) (of_whole (bdiv + 1)))

-- that minus target, absolute, over target
abbrev pub error_fraction : (reference target : Float) → ℕ → ℕ → Float
error_fraction reference target cd bdiv = div binary32 (abs (sub binary32 (actual_baud reference cd bdiv) target)) target

-- a clock divisor of 0, and one above 65,535, is skipped
pub record Candidate (reference target : Float) (p : BaudDivisors) : Type 0 where
  pub in_range : InRange p.bdiv
  pub cd_is : p.cd ≡ clock_divisor reference target p.bdiv
  pub not_zero : 1 ≤ p.cd
  pub not_above : p.cd ≤ 65535
  pub error_is : p.error ≡ error_fraction reference target p.cd p.bdiv

-- the f32 0.005
abbrev pub MAX_BAUDERROR_RATE : Float
MAX_BAUDERROR_RATE = of_bits binary32 1000593162

pub record Viable (reference target : Float) (p : BaudDivisors) : Type 0 where
  pub candidate : Candidate reference target p
  pub small : T (lt p.error MAX_BAUDERROR_RATE)

-- what comes of one bdiv, by a rule on pairs: the pair that has it, or that none has
pub data Outcome (Rule : BaudDivisors → Type 0) (bdiv : ℕ) : Option BaudDivisors → Type 0 where
  pair : {p : BaudDivisors} → Rule p → p.bdiv ≡ bdiv → Outcome Rule bdiv (Some p)
  skipped : ((p : BaudDivisors) → Rule p → p.bdiv ≡ bdiv → ⊥) → Outcome Rule bdiv None
