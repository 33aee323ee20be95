-- A step after the end asks for no access and gives the same end again, whatever word is handed in. Assumes nothing.
use Prim.Native.Nat.{ℕ, zero, suc}
use mathlib.Core.Path.{◌≡◌, refl, ap}
use mathlib.Core.List.{List}
use lib.Dec.{eqb-suc-zero}
use lib.Seq.{drop-nil}
use Rattle.refusals.specs.Told.{Told, answered, refused}
use Rattle.pll_rows.specs.declared.PllPlan.{PllPlan}
use Rattle.pll_rows.specs.Sequence.{Row, sequence}
use Rattle.pll_step.specs.declared.Place.{Place}
use Rattle.pll_step.specs.Step.{Asked, reads, writes, locked, Asking, place, taken, received, ask}
use Rattle.pll_step.proofs.Places.{by_cases, up}

-- no access is asked for
abbrev pub Ended : Told Asked → Type 0
Ended (answered (reads i)) = ⊥
Ended (answered (writes i v)) = ⊥
Ended (answered locked) = Unit {0}
Ended (refused n ns) = Unit {0}

module _ (plan : PllPlan) (w y : ℕ) where
  abbrev here : ℕ → ℕ → Asking
  here n k = ask (sequence plan) (place k n w)

  abbrev Same : ℕ → ℕ → Type 0
  Same n k = Ended (here n k).asked → ask (sequence plan) (received (sequence plan) (here n k).place y) ≡ here n k

  -- with no poll left the poll is refused again, and with one left it is no end
  at_poll : (n : ℕ) → Same n 9
  at_poll zero h = refl
  at_poll (suc n) h = absurd (rw (eqb-suc-zero n) at h)

  same : (n k : ℕ) → Same n k
  same n =
      by_cases (Same n) 13
      (absurd, (absurd, (absurd, (absurd, (absurd, (absurd, (absurd, (absurd, (absurd, (at_poll n, (absurd, (absurd, (last, past)))))))))))))
    where
      last : Same n 12
      last h = refl

      past : (k : ℕ) → Same n (up 13 k)
      past k h = ap (λ (l : List Row). ask (sequence plan) (taken l (here n (up 13 k)).place y)) (drop-nil k)

pub same_end : (plan : PllPlan) (p : Place) (y : ℕ) → Ended (ask (sequence plan) p).asked →
    ask (sequence plan) (received (sequence plan) (ask (sequence plan) p).place y) ≡ ask (sequence plan) p
same_end plan p y = same plan p.word y p.polls p.at
