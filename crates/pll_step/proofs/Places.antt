-- What holds at each place of the table holds at every place; and the bit that a poll of the table looks for. Assumes nothing.
use Prim.Native.Nat.{ℕ, zero, suc, ◌+◌, ◌-◌}
use native.Mathlib.Numerals.{add-one}
use native.Mathlib.Omega.{arith}
use mathlib.Core.Path.{◌≡◌, refl, sym, ap, ap₂, ◌∙◌}
use mathlib.Core.List.{List, [], ◌∷◌}
use mathlib.Core.Bool.{Bool, cond}
use lib.ListN.{drop}
use Rattle.fields.specs.declared.Field.{Field}
use Rattle.registers.specs.Plls.{pll_lock}
use Rattle.pll_rows.specs.declared.Due.{Due}
use Rattle.pll_rows.specs.declared.Due.TheVariants.{Poll}
use Rattle.pll_rows.specs.declared.PllPlan.{PllPlan}
use Rattle.pll_rows.specs.Due.{IsDue}
use Rattle.pll_rows.specs.Sequence.{Row, read, write, poll, seen, sequence}
use Rattle.pll_step.specs.declared.Place.{Place}
use Rattle.pll_step.specs.Step.{place, asked_last, taken, received}

-- n above k
abbrev pub up : ℕ → ℕ → ℕ
up zero k = k
up (suc n) k = suc (up n k)

-- what holds at each number below n, one by one, and from n on, holds at every number
abbrev pub Cases : (ℕ → Type 0) → ℕ → Type 0
Cases P zero = (k : ℕ) → P k
Cases P (suc n) = P zero × Cases (λ k. P (suc k)) n

pub by_cases : (P : ℕ → Type 0) (n : ℕ) → Cases P n → (k : ℕ) → P k
by_cases P zero t k = t k
by_cases P (suc n) t zero = t.0
by_cases P (suc n) t (suc k) = by_cases (λ j. P (suc j)) n t.1 k

-- ---- a poll

-- each poll looks for this bit
abbrev PollsFor : Field → List Row → Type 0
PollsFor bit [] = Unit {0}
PollsFor bit (read i ∷ rows) = PollsFor bit rows
PollsFor bit (write i f ∷ rows) = PollsFor bit rows
PollsFor bit (poll i b ∷ rows) = (b ≡ bit) × PollsFor bit rows

left : (bit : Field) (k : ℕ) (rows : List Row) → PollsFor bit rows → PollsFor bit (drop k rows)
left bit zero rows h = h
left bit (suc k) [] h = h
left bit (suc k) (read i ∷ rows) h = left bit k rows h
left bit (suc k) (write i f ∷ rows) h = left bit k rows h
left bit (suc k) (poll i b ∷ rows) h = left bit k rows h.1

module _ (bit : Field) (p : Place) (x w : ℕ) {i : ℕ} (d : Due) (is : d ≡ Poll i) where
  taken_poll : (rows : List Row) → PollsFor bit rows → IsDue rows w d →
      place (cond (seen x bit) p.at (p.at - 1)) p.polls x ≡ taken rows p x
  taken_poll [] h e = cc
  taken_poll (read j ∷ rows) h e = cc
  taken_poll (write j f ∷ rows) h e = cc
  taken_poll (poll j b ∷ rows) h e = ap (λ (b : Field). place (cond (seen x b) p.at (p.at - 1)) p.polls x) (sym h.0)

-- the row asked last is that before the place, and its bit is the PLL's
pub polled : (plan : PllPlan) (p : Place) (x w last : ℕ) (shown : Bool) {i : ℕ} (d : Due) → p.at ≡ last + 1 →
    IsDue (drop last (sequence plan)) w d → d ≡ Poll i → seen x (pll_lock plan.pll) ≡ shown →
    place (cond shown p.at last) p.polls x ≡ received (sequence plan) p x
polled plan p x w last shown d at due is h =
    ap₂ (λ (b : Bool) (k : ℕ). place (cond b p.at k) p.polls x) (sym h) (omega arith)
    ∙ taken_poll (pll_lock plan.pll) p x w d is (drop last (sequence plan)) (left (pll_lock plan.pll) last (sequence plan) (refl, tt)) due
    ∙ ap (λ (k : ℕ). taken (asked_last k (sequence plan)) p x) (sym (at ∙ add-one last))
