-- A table's numbers by their places. Assumes nothing.
use Prim.Native.Nat.{ℕ, ◌+◌, ◌*◌, ◌/◌, ◌%◌, ◌<◌}
use mathlib.Core.Path.{◌≡◌, refl, ap, subst, subst⁻¹}
use mathlib.Core.List.{List, [], ◌∷◌}
use native.Mathlib.Omega.{arith}
use lib.ListN.{get_or, length}
use lib.Seq.{ext_get_or}
use Rattle.ratio_table.specs.declared.Ratio.{Ratio}
use Rattle.ratio_table.specs.Lowest.{ratio}
use Rattle.ratio_table.specs.Table.{Square, entry}
use Rattle.ratio_table.proofs.Entries.{four}
use Rattle.c_ratios.specs.Tells.{table_words}

-- a list of four is its four elements
listed : {A : Type 0} (d : A) (l : List A) → length l ≡ 4 → l ≡ get_or l 0 d ∷ get_or l 1 d ∷ get_or l 2 d ∷ get_or l 3 d ∷ []
listed {A} d l e =
    ext_get_or d l (get_or l 0 d ∷ get_or l 1 d ∷ get_or l 2 d ∷ get_or l 3 d ∷ []) e
    (λ i h. four (λ (i : ℕ). get_or l i d ≡ get_or (get_or l 0 d ∷ get_or l 1 d ∷ get_or l 2 d ∷ get_or l 3 d ∷ []) i d) refl refl refl refl i (omega (arith, e)))

abbrev written : List (List Ratio) → List (List Ratio)
written t = let row : ℕ → List Ratio = λ i. entry t i 0 ∷ entry t i 1 ∷ entry t i 2 ∷ entry t i 3 ∷ [] in row 0 ∷ row 1 ∷ row 2 ∷ row 3 ∷ []

module _ {t : List (List Ratio)} (s : Square t) where
  as_written : t ≡ written t
  as_written =
      ext_get_or [] t (written t) s.rows
      (λ i h. four (λ (i : ℕ). get_or t i [] ≡ get_or (written t) i []) (row 0 (omega arith)) (row 1 (omega arith)) (row 2 (omega arith)) (row 3 (omega arith)) i (omega (arith, s.rows)))
    where
      row : (i : ℕ) → i < 4 → get_or t i [] ≡ entry t i 0 ∷ entry t i 1 ∷ entry t i 2 ∷ entry t i 3 ∷ []
      row i h = listed (ratio 0 0) (get_or t i []) (s.columns i h)

  pub words_long : length (table_words t) ≡ 32
  words_long = ap (λ (u : List (List Ratio)). length (table_words u)) as_written

  -- in a row of numbers, those of the k-th ratio
  abbrev At : List ℕ → ℕ → Type 0
  At words k = (get_or words (2 * k) 0 ≡ (entry t (k / 4) (k % 4)).num) × (get_or words (2 * k + 1) 0 ≡ (entry t (k / 4) (k % 4)).den)

  each : (i : ℕ) → i < 4 → (j : ℕ) → j < 4 → At (table_words (written t)) (4 * i + j)
  each =
      let row : ℕ → ℕ → Type 0 = λ i j. At (table_words (written t)) (4 * i + j) in
      four (λ (i : ℕ). (j : ℕ) → j < 4 → row i j)
      (four (row 0) (refl, refl) (refl, refl) (refl, refl) (refl, refl))
      (four (row 1) (refl, refl) (refl, refl) (refl, refl) (refl, refl))
      (four (row 2) (refl, refl) (refl, refl) (refl, refl) (refl, refl))
      (four (row 3) (refl, refl) (refl, refl) (refl, refl) (refl, refl))

  pub at : (k : ℕ) → k < 16 → At (table_words t) k
  at k h =
      subst⁻¹ (λ (words : List ℕ). At words k) (ap table_words as_written)
      (subst (At (table_words (written t))) (let e : 4 * (k / 4) + k % 4 ≡ k = omega arith in e) (each (k / 4) (omega arith) (k % 4) (omega arith)))
