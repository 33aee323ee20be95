-- A row whose first words are overwritten, one after the other. Assumes nothing.
use Prim.Native.Nat.{ℕ, zero, suc, ◌+◌, ◌≤◌, ◌<◌}
use mathlib.Core.Path.{◌≡◌, refl, ap, ap₂, ◌∙◌}
use mathlib.Core.List.{List, [], ◌∷◌, ◌++◌}
use native.Mathlib.Nat.{le_of_suc-le-suc, not-suc-le-zero}
use native.Mathlib.Numerals.{add-one}
use native.Mathlib.Omega.{arith}
use lib.ListN.{length, length-set, take, drop, set, get_or}
use lib.Seq.{take-length}

module _ {A : Type 0} where
  -- the first i words overwritten
  abbrev pub over : ℕ → List A → List A → List A
  over i words row = take i words ++ drop i row

  over_suc : (d : A) (i : ℕ) (words row : List A) → i < length words → i < length row → set (over i words row) i (get_or words i d) ≡ over (suc i) words row
  over_suc d i [] row h k = absurd (not-suc-le-zero h)
  over_suc d i (w ∷ ws) [] h k = absurd (not-suc-le-zero k)
  over_suc d zero (w ∷ ws) (x ∷ row) h k = refl
  over_suc d (suc i) (w ∷ ws) (x ∷ row) h k = ap (λ (l : List A). w ∷ l) (over_suc d i ws row (le_of_suc-le-suc h) (le_of_suc-le-suc k))

  over_more : (d : A) (i : ℕ) (words row : List A) → i < length words → i < length row → set (over i words row) i (get_or words i d) ≡ over (i + 1) words row
  over_more d i words row h k = rw add-one (over_suc d i words row h k)

  -- what stands in the row after i words
  pub record Copying (row words out : List A) (i : ℕ) : Type 0 where
    pub bound : i ≤ length words
    pub room : length words ≤ length row
    pub as_long : length out ≡ length row
    pub copied : out ≡ over i words row

  pub begun : {row words : List A} → length words ≤ length row → Copying row words row 0
  begun room = record { bound = omega arith; room = room; as_long = refl; copied = refl }

  module _ {row words out : List A} {i : ℕ} (c : Copying row words out i) where
    pub one_more : (d : A) {word : A} → i < length words → word ≡ get_or words i d → Copying row words (set out i word) (i + 1)
    one_more d {word} h e = record {
      bound = omega arith;
      room = c.room;
      as_long = length-set out i word ∙ c.as_long;
      copied =
          ap₂ (λ (l : List A) (w : A). set l i w) c.copied e
          ∙ over_more d i words row h (omega (arith, c.room));
    }

    pub all_copied : (i < length words → ⊥) → out ≡ words ++ drop (length words) row
    all_copied h =
        let all : i ≡ length words = omega (arith, c.bound) in
        c.copied ∙ ap (λ (n : ℕ). over n words row) all ∙ ap (λ (l : List A). l ++ drop (length words) row) (take-length words)
