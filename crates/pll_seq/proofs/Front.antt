-- Storing a list of accesses one by one from record 0 on writes it over the rows' first records. Assumes nothing.
use Prim.Native.Nat.{ℕ, suc, ◌≤◌}
use native.Mathlib.Nat.{le_of_suc-le-suc, not-suc-le-zero}
use mathlib.Core.Path.{◌≡◌, refl, sym, ap, subst, ◌∙◌}
use mathlib.Core.List.{List, [], ◌∷◌, map}
use lib.ListN.{length, set, length-map}
use Rattle.pll_rows.specs.Sequence.{Access}
use Rattle.pll_seq.specs.Record.{Rows, rows, stored, over, written, Room}

abbrev pub stored_all : ℕ → List Access → Rows → Rows
stored_all n [] r = r
stored_all n (a ∷ list) r = stored_all (suc n) list (stored n a r)

-- ---- one row

abbrev set_all : ℕ → List ℕ → List ℕ → List ℕ
set_all n [] row = row
set_all n (v ∷ vs) row = set_all (suc n) vs (set row n v)

behind : (n : ℕ) (vs : List ℕ) (x : ℕ) (row : List ℕ) → set_all (suc n) vs (x ∷ row) ≡ x ∷ set_all n vs row
behind n [] x row = refl
behind n (v ∷ vs) x row = behind (suc n) vs x (set row n v)

front : (vs row : List ℕ) → length vs ≤ length row → set_all 0 vs row ≡ over vs row
front [] row h = refl
front (v ∷ vs) [] h = absurd (not-suc-le-zero h)
front (v ∷ vs) (x ∷ row) h = behind 0 vs v row ∙ ap (λ (l : List ℕ). v ∷ l) (front vs row (le_of_suc-le-suc h))

-- ---- the three rows

columns : (n : ℕ) (list : List Access) (r : Rows) →
    stored_all n list r
    ≡ rows
    (set_all n (map (λ (a : Access). a.kind) list) r.kinds)
    (set_all n (map (λ (a : Access). a.number) list) r.numbers)
    (set_all n (map (λ (a : Access). a.value) list) r.values)
columns n [] r = refl
columns n (a ∷ list) r = columns (suc n) list (stored n a r)

pub in_front : (list : List Access) (r : Rows) → Room (length list) r → stored_all 0 list r ≡ written list r
in_front list r h =
    columns 0 list r
    ∙ λ i.
    rows
    (column (λ (a : Access). a.kind) r.kinds h.kinds i)
    (column (λ (a : Access). a.number) r.numbers h.numbers i)
    (column (λ (a : Access). a.value) r.values h.values i)
  where
    column : (f : Access → ℕ) (row : List ℕ) → length list ≤ length row → set_all 0 (map f list) row ≡ over (map f list) row
    column f row l = front (map f list) row (subst (λ (n : ℕ). n ≤ length row) (sym (length-map list f)) l)
