-- Laws of a trace's bytes: how many samples they have and which, and that it does not matter how they were cut.
use mathlib.Core.Path.{◌≡◌, refl, sym, ap, ap₂, ◌∙◌}
use mathlib.Core.List.{List, [], ◌∷◌, ◌++◌}
use Prim.Native.Nat.{ℕ, zero, suc, ◌+◌, ◌*◌, ◌/◌, ◌<◌, ◌≤◌}
use native.Mathlib.Omega.{arith}
use lib.ListN.{length, get_or}
use Rattle.trace.specs.Numbers.{Sample, firsts, seconds}
use Rattle.replay.specs.Samples.{count, samples_of, left_of}

-- four bytes a sample, and three at most are left
pub measured : (b : List ℕ) → (length (samples_of b) * 4 + length (left_of b) ≡ length b) × (length (left_of b) ≤ 3)
measured [] = omega arith
measured (a ∷ []) = omega arith
measured (a ∷ b ∷ []) = omega arith
measured (a ∷ b ∷ c ∷ []) = omega arith
measured (a ∷ b ∷ c ∷ d ∷ l) = omega (arith, (measured l).0, (measured l).1)

pub how_many : (b : List ℕ) → length (samples_of b) ≡ length b / 4
how_many b = omega (arith, (measured b).0, (measured b).1)

-- each sample's counts, by its place
module _ (a b c d : ℕ) (l : List ℕ) (i : ℕ) where
  next : (k : ℕ) → suc i * 4 + k ≡ suc (suc (suc (suc (i * 4 + k))))
  next k = omega arith

  past : (k : ℕ) → get_or (a ∷ b ∷ c ∷ d ∷ l) (suc i * 4 + k) 0 ≡ get_or l (i * 4 + k) 0
  past k = ap (λ (n : ℕ). get_or (a ∷ b ∷ c ∷ d ∷ l) n 0) (next k)

  past_whole : get_or (a ∷ b ∷ c ∷ d ∷ l) (suc i * 4) 0 ≡ get_or l (i * 4) 0
  past_whole = ap (λ (n : ℕ). get_or (a ∷ b ∷ c ∷ d ∷ l) n 0) whole
    where
      whole : suc i * 4 ≡ suc (suc (suc (suc (i * 4))))
      whole = omega arith

pub first_at : (b : List ℕ) (i : ℕ) → i < length (samples_of b)
    → get_or (firsts (samples_of b)) i 0 ≡ count (get_or b (i * 4) 0) (get_or b (i * 4 + 1) 0)
first_at [] i h = absurd (omega arith)
first_at (a ∷ []) i h = absurd (omega arith)
first_at (a ∷ b ∷ []) i h = absurd (omega arith)
first_at (a ∷ b ∷ c ∷ []) i h = absurd (omega arith)
first_at (a ∷ b ∷ c ∷ d ∷ l) zero h = refl
first_at (a ∷ b ∷ c ∷ d ∷ l) (suc i) h = first_at l i (omega arith) ∙ sym (ap₂ count (past_whole a b c d l i) (past a b c d l i 1))

pub second_at : (b : List ℕ) (i : ℕ) → i < length (samples_of b)
    → get_or (seconds (samples_of b)) i 0 ≡ count (get_or b (i * 4 + 2) 0) (get_or b (i * 4 + 3) 0)
second_at [] i h = absurd (omega arith)
second_at (a ∷ []) i h = absurd (omega arith)
second_at (a ∷ b ∷ []) i h = absurd (omega arith)
second_at (a ∷ b ∷ c ∷ []) i h = absurd (omega arith)
second_at (a ∷ b ∷ c ∷ d ∷ l) zero h = refl
second_at (a ∷ b ∷ c ∷ d ∷ l) (suc i) h = second_at l i (omega arith) ∙ sym (ap₂ count (past a b c d l i 2) (past a b c d l i 3))

-- the samples of two pieces: those of the first, and those of what it left with the second
pub samples_on : (b c : List ℕ) → samples_of (b ++ c) ≡ samples_of b ++ samples_of (left_of b ++ c)
samples_on [] c = refl
samples_on (x ∷ []) c = refl
samples_on (x ∷ y ∷ []) c = refl
samples_on (x ∷ y ∷ z ∷ []) c = refl
samples_on (x ∷ y ∷ z ∷ w ∷ b) c = ap (λ (t : List Sample). record { first = count x y; second = count z w } ∷ t) (samples_on b c)

pub left_on : (b c : List ℕ) → left_of (b ++ c) ≡ left_of (left_of b ++ c)
left_on [] c = refl
left_on (x ∷ []) c = refl
left_on (x ∷ y ∷ []) c = refl
left_on (x ∷ y ∷ z ∷ []) c = refl
left_on (x ∷ y ∷ z ∷ w ∷ b) c = left_on b c
