-- A step after the end asks for no access and gives the same end again: after refusal 11, 11. Assumes nothing.
use Prim.Native.Nat.{ℕ, ◌+◌, ◌-◌, ◌≤◌}
use mathlib.Core.Path.{◌≡◌, refl, sym, ap, ◌∙◌}
use mathlib.Core.Bool.{Bool, true, false, cond, ◌&&◌}
use mathlib.Core.List.{List, [], ◌∷◌}
use native.Mathlib.Omega.{arith}
use lib.Dec.{eqb, leb}
use lib.ListN.{length, drop, length-drop}
use borrow.Author.Tests.{leb-true, le-leb}
use Rattle.refusals.specs.Told.{Told, answered, refused}
use Rattle.refusals.specs.Number.{LOCK_TIMEOUT}
use Rattle.pll_rows.specs.declared.PllPlan.{PllPlan}
use Rattle.pll_rows.specs.Sequence.{Row, read, write, poll, seen, sequence}
use Rattle.pll_step.specs.declared.Place.{Place}
use Rattle.pll_step.specs.Step.{Asked, reads, writes, locked, Asking, place, asked_last, taken, received, due, ask, next}
use Rattle.pll_step.proofs.Ends.{Ended, same_end}
use Rattle.pll_start.specs.Start.{fits}
use Rattle.c_pll_start.specs.declared.Run.{Run}
use Rattle.c_pll_start.specs.declared.Step.{Step}
use Rattle.c_pll_start.specs.Step.{pll_plan_of, config_of, sequence_of, takes, run_at, tells, given, stepped}
use Rattle.c_pll_start.proofs.Stepped as one

-- ---- no more than twelve rows are ever done

not_further : (rows : List Row) (p : Place) (x : ℕ) → (taken rows p x).at ≤ p.at
not_further [] p x = omega arith
not_further (read i ∷ rows) p x = omega arith
not_further (write i f ∷ rows) p x = omega arith
not_further (poll i bit ∷ rows) p x = by (seen x bit)
  where
    by : (shown : Bool) → cond shown p.at (p.at - 1) ≤ p.at
    by true = omega arith
    by false = omega arith

due_within : (rows : List Row) (p : Place) (m : ℕ) → p.at + length rows ≤ m → (due rows p).place.at ≤ m
due_within [] p m h = omega arith
due_within (read i ∷ rows) p m h = omega arith
due_within (write i f ∷ rows) p m h = omega arith
due_within (poll i bit ∷ rows) p m h = by (eqb p.polls 0)
  where
    by : (none : Bool) →
        (cond {A = Asking} none
        (record { asked = refused LOCK_TIMEOUT []; place = p })
        (record { asked = answered (reads i); place = place (p.at + 1) (p.polls - 1) p.word })
        ).place.at ≤ m
    by true = omega arith
    by false = omega arith

within : (plan : PllPlan) (p : Place) (x : ℕ) → p.at ≤ 12 → (ask (sequence plan) (received (sequence plan) p x)).place.at ≤ 12
within plan p x h =
    let q = received (sequence plan) p x in
    let l = not_further (asked_last p.at (sequence plan)) p x in
    due_within (drop q.at (sequence plan)) q 12 (omega (arith, l, length-drop q.at (sequence plan)))

-- ---- the run after a step

same_run : (a : Told Asked) (r : Run) → (tells a r).run ≡ r
same_run (answered (reads i)) r = refl
same_run (answered (writes i v)) r = refl
same_run (answered locked) r = refl
same_run (refused n ns) r = refl

three : (a b c : Bool) → (a && (b && c)) ≡ true → (a ≡ true) × (b ≡ true) × (c ≡ true)
three true true c e = (refl, refl, e)
three true false c e = absurd (let z : ◌≡◌ {A = ℕ} 0 1 = cc in omega arith)
three false b c e = absurd (let z : ◌≡◌ {A = ℕ} 0 1 = cc in omega arith)

module _ (r : Run) (x : ℕ) (e : takes r ≡ true) where
  abbrev asking : Asking
  asking = next (sequence_of r) x

  abbrev after : Run
  after = run_at r.plan asking.place

  run_after : (stepped r x).run ≡ after
  run_after = ap (λ (s : Step). s.run) (one.taken r x e) ∙ same_run asking.asked after

  -- a step takes it
  taken_after : takes after ≡ true
  taken_after =
      let (pll, done, settings) = three (leb r.plan.pll 2) (leb r.done 12) (fits (config_of r.plan)) e in
      (λ i. pll i && (le-leb _ _ (within (pll_plan_of r.plan) (sequence_of r).place x (leb-true _ _ done)) i && settings i))

  pub taken_again : takes (stepped r x).run ≡ true
  taken_again = ap takes run_after ∙ taken_after

  pub again : (y : ℕ) → Ended asking.asked → stepped (stepped r x).run y ≡ stepped r x
  again y h =
      ap (λ (q : Run). stepped q y) run_after
      ∙ one.taken after y taken_after
      ∙ ap (given r.plan) (same_end (pll_plan_of r.plan) (received (sequence (pll_plan_of r.plan)) (sequence_of r).place x) y h)
      ∙ sym (one.taken r x e)

-- ---- refusal 11

is_end : (a : Told Asked) (r : Run) → (tells a r).refusal ≡ LOCK_TIMEOUT → Ended a
is_end (answered (reads i)) r e = absurd (omega arith)
is_end (answered (writes i v)) r e = absurd (omega arith)
is_end (answered locked) r e = tt
is_end (refused n ns) r e = tt

pub after_11 : (r : Run) (x y : ℕ) → (stepped r x).refusal ≡ LOCK_TIMEOUT → stepped (stepped r x).run y ≡ stepped r x
after_11 r x y e = by (takes r) refl
  where
    by : (t : Bool) → takes r ≡ t → stepped (stepped r x).run y ≡ stepped r x
    by true h =
        again r x h y
        (is_end (next (sequence_of r) x).asked (run_at r.plan (next (sequence_of r) x).place) (sym (ap (λ (s : Step). s.refusal) (one.taken r x h)) ∙ e))
    by false h = absurd (let z = sym (ap (λ (s : Step). s.refusal) (one.not_taken r x h)) ∙ e in omega arith)
