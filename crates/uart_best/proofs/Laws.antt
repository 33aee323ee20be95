-- The search's invariant: after the baud dividers below k, what leads is the best pair among them; and the best pair is one only.
use mathlib.Core.Path.{◌≡◌, refl, sym, ◌∙◌, ap, subst, subst⁻¹}
use mathlib.Core.Bool.{true, false}
use mathlib.Core.Logic.{◌⊎◌, ◌≢◌, ⊎_elim}
use Prim.Native.Nat.{ℕ, ◌+◌, ◌^◌, ◌<◌, ◌≤◌}
use native.Mathlib.Nat.{eq-or-lt_of_le, le_antisymm, le_of_eq, le_of_lt}
use native.Mathlib.Omega.{arith}
use lib.Dec.{T}
use lib.Ieee.{Float, lt, le, eq}
use Rattle.std.specs.Prelude.{Some, None}
use Rattle.refusals.specs.Told.{Told, answered, refused}
use Rattle.refusals.specs.Number.{NO_PAIR}
use mathlib.Core.List.{[]}
use Rattle.float32.proofs.Tests.{holds}
use Rattle.float32.proofs.Parts.{plain}
use Rattle.float32.proofs.Order.{not_less, itself, both, onward, strict}
use Rattle.float32.proofs.Bound.{UpTo, LIMIT}
use Rattle.uart_candidate.specs.Range.{FIRST, LAST}
use Rattle.uart_candidate.specs.Candidate.{wanted, Candidate, Outcome, pair, skipped}
use Rattle.uart_candidate.specs.declared.BaudDivisors.{BaudDivisors}
use Rattle.uart_candidate.specs.declared.Wanted.{Wanted}
use Rattle.uart_candidate.proofs.Pairs.{one_each}
use Rattle.uart_candidate.proofs.Laws.{bounded}
use Rattle.uart_best.specs.Best.{Right, best, no_pair}
use Rattle.uart_best.specs.Turn.{First, found, nowhere}

-- the best among the candidates whose bdiv is below k
pub record BestBelow (reference target : Float) (k : ℕ) (p : BaudDivisors) : Type 0 where
  pub candidate : Candidate reference target p
  pub passed : p.bdiv < k
  pub least : (q : BaudDivisors) → Candidate reference target q → q.bdiv < k → T (le p.error q.error)
  pub first : (q : BaudDivisors) → Candidate reference target q → q.bdiv < k → T (eq p.error q.error) → p.bdiv ≤ q.bdiv

-- no candidate is below k
abbrev pub NoneBelow : (reference target : Float) → ℕ → Type 0
NoneBelow reference target k = (q : BaudDivisors) → Candidate reference target q → k ≤ q.bdiv

last : (a k : ℕ) → a < k + 1 → (a ≡ k) ⊎ (a < k)
last a k h = eq-or-lt_of_le (omega arith)

pub begins : (reference target : Float) → NoneBelow reference target FIRST
begins reference target p h = h.in_range.from

later : (a k : ℕ) → a ≢ k → k ≤ a → k + 1 ≤ a
later a k n h = omega arith

earlier : (a k : ℕ) → a ≢ k → a < k + 1 → a < k
earlier a k n h = omega arith

passed_by : (a b k : ℕ) → a < k → b ≡ k → a ≤ b
passed_by a b k h e = omega arith

past : (a k : ℕ) → a ≤ LAST → LAST < k → k ≤ a → ⊥
past a k h l m = omega arith

pinned : (a b k : ℕ) → a ≡ k → k ≤ b → b < k + 1 → a ≡ b
pinned a b k e h l = omega arith

module _ {reference target : Float} {k : ℕ} where
  pub none_yet : Outcome (Candidate reference target) k None → NoneBelow reference target k → NoneBelow reference target (k + 1)
  none_yet (skipped free) n q h = later q.bdiv k (free q h) (n q h)

  pub first_found : {p : BaudDivisors} → Outcome (Candidate reference target) k (Some p) → NoneBelow reference target k → First reference target (Some p)
  first_found (pair r e) n = found r (λ q h. at_first e (n q h))
    where
      at_first : {a b : ℕ} → a ≡ k → k ≤ b → a ≤ b
      at_first e l = omega arith

  pub none_at_all : LAST < k → NoneBelow reference target k → First reference target None
  none_at_all l n = nowhere (λ q h. past q.bdiv k h.in_range.to l (n q h))

  pub passes : {p : BaudDivisors} → Outcome (Candidate reference target) k None → BestBelow reference target k p → BestBelow reference target (k + 1) p
  passes (skipped free) b = record {
    candidate = b.candidate;
    passed = omega (arith, b.passed);
    least = λ q h l. b.least q h (earlier q.bdiv k (free q h) l);
    first = λ q h l. b.first q h (earlier q.bdiv k (free q h) l);
  }

module _ (reference target : Float) (bound : (p : BaudDivisors) → Candidate reference target p → UpTo LIMIT p.error) (k : ℕ) where
  abbrev C : BaudDivisors → Type 0
  C = Candidate reference target

  number : (p : BaudDivisors) → C p → T (plain p.error)
  number p h = (bound p h).is_plain

  -- the only candidate at k is no further off than itself
  level : (q s : BaudDivisors) → C q → C s → q.bdiv ≡ s.bdiv → T (le q.error s.error)
  level q s h g e = subst (λ (x : BaudDivisors). T (le q.error x.error)) (one_each h g e) (itself q.error (number q h))

  taken : (p q : BaudDivisors) → C q → q.bdiv ≡ k → BestBelow reference target k p → T (lt q.error p.error) → BestBelow reference target (k + 1) q
  taken p q h e b l = record {
    candidate = h;
    passed = omega arith;
    least = λ s g m. ⊎_elim (λ (f : s.bdiv ≡ k). level q s h g (e ∙ sym f)) (λ (f : s.bdiv < k). onward q.error p.error s.error (number q h) (number p b.candidate) (number s g) l (b.least s g f)) (last s.bdiv k m);
    first = λ s g m z. ⊎_elim (λ (f : s.bdiv ≡ k). le_of_eq (e ∙ sym f)) (λ (f : s.bdiv < k). absurd (strict q.error p.error s.error (number q h) (number p b.candidate) (number s g) l (b.least s g f) z)) (last s.bdiv k m);
  }

  kept : (p q : BaudDivisors) → C q → q.bdiv ≡ k → BestBelow reference target k p → lt q.error p.error ≡ false → BestBelow reference target (k + 1) p
  kept p q h e b l = record {
    candidate = b.candidate;
    passed = omega (arith, b.passed);
    least = λ s g m. ⊎_elim (λ (f : s.bdiv ≡ k). subst (λ (x : BaudDivisors). T (le p.error x.error)) (one_each h g (e ∙ sym f)) (not_less q.error p.error (number q h) (number p b.candidate) l)) (b.least s g) (last s.bdiv k m);
    first = λ s g m z. ⊎_elim (λ (f : s.bdiv ≡ k). passed_by p.bdiv s.bdiv k b.passed f) (λ (f : s.bdiv < k). b.first s g f z) (last s.bdiv k m);
  }

-- the first one is the best up to itself
pub alone : (reference target : Float) (bound : (p : BaudDivisors) → Candidate reference target p → UpTo LIMIT p.error) {p : BaudDivisors} → First reference target (Some p) → BestBelow reference target (p.bdiv + 1) p
alone reference target bound {p} (found r n) = record {
  candidate = r;
  passed = omega arith;
  least = λ s g m. level reference target bound p.bdiv p s r g (pinned p.bdiv s.bdiv p.bdiv refl (n s g) m);
  first = λ s g m _. n s g;
}

-- ---- the two as f32
module _ (reference target : ℕ) where
  module _ (R : reference < 2 ^ 32) (T : target < 2 ^ 32) {w : Wanted} (a : w ≡ wanted reference target) where
    bound : (p : BaudDivisors) → Candidate w.reference w.target p → UpTo LIMIT p.error
    bound p g = bounded reference target (le_of_lt R) (le_of_lt T) (subst (λ (v : Wanted). Candidate v.reference v.target p) a g)

    pub begun : {p : BaudDivisors} → First w.reference w.target (Some p) → BestBelow w.reference w.target (p.bdiv + 1) p
    begun f = alone _ _ bound f

    module _ {k : ℕ} {p q : BaudDivisors} where
      pub displaced : Outcome (Candidate w.reference w.target) k (Some q) → lt q.error p.error ≡ true → BestBelow w.reference w.target k p → BestBelow w.reference w.target (k + 1) q
      displaced (pair r s) e b = taken _ _ bound k p q r s b (holds e)

      pub not_displaced : Outcome (Candidate w.reference w.target) k (Some q) → lt q.error p.error ≡ false → BestBelow w.reference w.target k p → BestBelow w.reference w.target (k + 1) p
      not_displaced (pair r s) e b = kept _ _ bound k p q r s b e

  -- after the last
  pub found_best : {w : Wanted} → w ≡ wanted reference target → {k : ℕ} {p : BaudDivisors} → LAST < k → BestBelow w.reference w.target k p → Right reference target (answered p)
  found_best a {k} {p} l h =
      let b = subst (λ (v : Wanted). BestBelow v.reference v.target k p) a h in
      best p record {
        candidate = b.candidate;
        least = λ q h. b.least q h (omega (arith, h.in_range.to));
        first = λ q h. b.first q h (omega (arith, h.in_range.to));
      }

  pub no_first : {w : Wanted} → w ≡ wanted reference target → First w.reference w.target None → Right reference target (refused NO_PAIR [])
  no_first a (nowhere n) = no_pair (λ q h. n q (subst⁻¹ (λ (v : Wanted). Candidate v.reference v.target q) a h))

  -- one answer to each question
  pub unique : reference < 2 ^ 32 → target < 2 ^ 32 → {a b : Told BaudDivisors} → Right reference target a → Right reference target b → a ≡ b
  unique R T (best p b) (best q c) =
      let u = (bounded reference target (le_of_lt R) (le_of_lt T) b.candidate).is_plain in
      let v = (bounded reference target (le_of_lt R) (le_of_lt T) c.candidate).is_plain in
      let l = b.least q c.candidate in
      let m = c.least p b.candidate in
      ap answered (one_each b.candidate c.candidate (le_antisymm (b.first q c.candidate (both p.error q.error u v l m)) (c.first p b.candidate (both q.error p.error v u m l))))
  unique R T (best p b) (no_pair n) = absurd (n p b.candidate)
  unique R T (no_pair n) (best q c) = absurd (n q c.candidate)
  unique R T (no_pair n) (no_pair m) = refl
