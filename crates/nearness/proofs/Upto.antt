-- A test that is computed at each number from 1 to n, for rules over a whole range of divisors.
-- Assumes nothing.
use Prim.Native.Nat.{ℕ, zero, suc}
use mathlib.Core.Bool.{Bool, true, ◌&&◌}
use mathlib.Core.Logic.{⊎_elim}
use native.Mathlib.Nat.{eq-or-lt_of_le}
use native.Mathlib.Omega.{arith}
use lib.Dec.{T}
use mir.Facts.{and_yes}
use Rattle.nearness.specs.Distance.{InRange}

abbrev pub upto : ℕ → (ℕ → Bool) → Bool
upto zero test = true
upto (suc n) test = test (suc n) && upto n test

pub within : (n : ℕ) (test : ℕ → Bool) → T (upto n test) → (e : ℕ) → InRange n e → T (test e)
within zero test t e r = absurd (omega arith)
within (suc n) test t e r =
    let (here, below) = and_yes (test (suc n)) (upto n test) t in
    ⊎_elim (λ is. rw is here) (λ lt. within n test below e (omega arith)) (eq-or-lt_of_le r.to_largest)
