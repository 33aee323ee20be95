-- The sixteen entries of a table. Assumes nothing.
use Prim.Native.Nat.{ℕ, zero, suc, ◌<◌}
use mathlib.Core.Path.{◌≡◌, refl, sym, ◌∙◌}
use mathlib.Core.List.{List, []}
use native.Mathlib.Nat.{mul-pos}
use native.Mathlib.Omega.{arith}
use lib.Dec.{lit≤}
use lib.ListN.{get_or, length}
use lib.Seq.{ext_get_or}
use Rattle.ratio_table.specs.declared.Above.{Above}
use Rattle.ratio_table.specs.declared.Ratio.{Ratio}
use Rattle.ratio_table.specs.declared.Undivided.{Undivided}
use Rattle.ratio_table.specs.Lowest.{ratio}
use Rattle.ratio_table.specs.Table.{Between, Compared, Mirrored, Ratios, Runs, Six, Square, entry, mirror, mirrored}
use Rattle.ratio_table.proofs.Lowest.{itself, of_reduced, turned}

-- what holds of 0, 1, 2 and 3 holds of every number below 4
pub four : (P : ℕ → Type 0) → P 0 → P 1 → P 2 → P 3 → (i : ℕ) → i < 4 → P i
four P a b c d zero h = a
four P a b c d (suc zero) h = b
four P a b c d (suc (suc zero)) h = c
four P a b c d (suc (suc (suc zero))) h = d
four P a b c d (suc (suc (suc (suc i)))) h = absurd (omega arith)

-- the six of four clocks that run make the table
pub six : (clock : ℕ → Undivided) → ((i : ℕ) → i < 4 → Runs (clock i)) → {a : Above} → Six (clock 0) (clock 1) (clock 2) (clock 3) a →
    Ratios clock (mirror (ratio 1 1) a)
six clock runs {a} s =
    let t = mirror (ratio 1 1) a in
    let row : ℕ → ℕ → Type 0 = λ i j. Between (clock i) (clock j) (entry t i j) in
    record {
      square = record { rows = refl; columns = four (λ (i : ℕ). length (get_or t i []) ≡ 4) refl refl refl refl };
      each =
          four (λ (i : ℕ). (j : ℕ) → j < 4 → row i j)
          (four (row 0) (itself _) r01 r02 r03)
          (four (row 1) (turned r01) (itself _) r12 r13)
          (four (row 2) (turned r02) (turned r12) (itself _) r23)
          (four (row 3) (turned r03) (turned r13) (turned r23) (itself _));
    }
  where
    both : (i j : ℕ) → i < 4 → j < 4 → {r : Ratio} → Compared (clock i) (clock j) r → Between (clock i) (clock j) r
    both i j h k c = of_reduced (mul-pos (runs i h).0 (runs j k).1) c

    r01 : Between (clock 0) (clock 1) a.r01
    r01 = both 0 1 (lit≤ tt) (lit≤ tt) s.r01

    r02 : Between (clock 0) (clock 2) a.r02
    r02 = both 0 2 (lit≤ tt) (lit≤ tt) s.r02

    r03 : Between (clock 0) (clock 3) a.r03
    r03 = both 0 3 (lit≤ tt) (lit≤ tt) s.r03

    r12 : Between (clock 1) (clock 2) a.r12
    r12 = both 1 2 (lit≤ tt) (lit≤ tt) s.r12

    r13 : Between (clock 1) (clock 3) a.r13
    r13 = both 1 3 (lit≤ tt) (lit≤ tt) s.r13

    r23 : Between (clock 2) (clock 3) a.r23
    r23 = both 2 3 (lit≤ tt) (lit≤ tt) s.r23

pub whole : (clock : ℕ → Undivided) → ((i : ℕ) → i < 4 → Runs (clock i)) → {t : List (List Ratio)} → Mirrored (clock 0) (clock 1) (clock 2) (clock 3) t → Ratios clock t
whole clock runs (mirrored s) = six clock runs s

-- two tables that agree in every entry are one
pub same_table :
    {t u : List (List Ratio)} → Square t → Square u →
    ((i j : ℕ) → i < 4 → j < 4 → entry t i j ≡ entry u i j) → t ≡ u
same_table {t = t} {u} r s e =
    ext_get_or [] t u (r.rows ∙ sym s.rows) λ i h.
    let i4 : i < 4 = omega (arith, r.rows) in
    ext_get_or (ratio 0 0) (get_or t i []) (get_or u i []) (r.columns i i4 ∙ sym (s.columns i i4)) λ j k.
    let j4 : j < 4 = omega (arith, r.columns i i4) in
    e i j i4 j4
