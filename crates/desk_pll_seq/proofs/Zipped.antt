-- Three rows that are walked together: what is left of them, record by record.
use Prim.Native.Nat.{ℕ}
use mathlib.Core.Path.{◌≡◌, refl, ap}
use mathlib.Core.Logic.{◌⊎◌, inl, inr}
use mathlib.Core.List.{List, [], ◌∷◌}
use denote.Ref.{Bor}
use Rattle.std.specs.declared.iter.Zip.{Zip}
use Rattle.std.specs.declared.slice.Iter.{Iter}
use Rattle.std.specs.Prelude.{Option, Some, None}
use Rattle.std.specs.Iterator.Adapters.{zip_first, zip_second}
use Rattle.std.specs.Slice.Iter.{iter_rest}
use Rattle.std.proofs.iter.Yields.{fronts}
use Rattle.std.proofs.lemmas.Iterator.{zips}
use Rattle.std.proofs.lemmas.List.{nil_from_length}
use Rattle.std.proofs.lemmas.Slice.Zip.{Zip-more, either_empty_from_Zip}
use Rattle.pll_rows.specs.Sequence.{Access}
use Rattle.desk_pll_seq.specs.Printed.{listed}

abbrev pub Three : Type 0
Three = Zip (Zip (Iter ℕ) (Iter ℕ)) (Iter ℕ)

abbrev pub Record : Type 0
Record = (Bor ℕ × Bor ℕ) × Bor ℕ

abbrev pub steps : Three → Option Record → Three → Type 0
steps = zips (zips fronts fronts) fronts

abbrev pub left : Three → List Access
left s = listed (iter_rest (zip_first (zip_first s))) (iter_rest (zip_second (zip_first s))) (iter_rest (zip_second s))

abbrev pub access_of : Record → Access
access_of p = record { kind = p.0.0.now; number = p.0.1.now; value = p.1.now }

pub one_record : (s t : Three) (r : Option Record) (p : Record) → r ≡ Some p → steps s r t → left s ≡ access_of p ∷ left t
one_record s t None p e h = cc
one_record s t (Some q) p e h =
    let same : q ≡ p = cc in
    let m = Zip-more (zip_first s) (zip_first t) (Some q.0) q.0 refl h.0 in
    rw (m.0, m.1, h.1) (ap (λ (p : Record). access_of p ∷ left t) same)

no_second : (kinds values : List ℕ) → listed kinds [] values ≡ []
no_second [] values = refl
no_second (k ∷ kinds) values = refl

no_third : (kinds numbers : List ℕ) → listed kinds numbers [] ≡ []
no_third [] numbers = refl
no_third (k ∷ kinds) [] = refl
no_third (k ∷ kinds) (n ∷ numbers) = refl

pub no_record : (s t : Three) (r : Option Record) → r ≡ None → steps s r t → left s ≡ []
no_record s t (Some q) e h = cc
no_record s t None e (inl (u, h)) = by (either_empty_from_Zip (zip_first s) u None refl h)
  where
    by : (iter_rest (zip_first (zip_first s)) ≡ []) ⊎ (iter_rest (zip_second (zip_first s)) ≡ []) → left s ≡ []
    by (inl g) = rw g refl
    by (inr g) = rw g (no_second (iter_rest (zip_first (zip_first s))) (iter_rest (zip_second s)))
no_record s t None e (inr (u, h)) =
    rw (nil_from_length _ h.0) (no_third (iter_rest (zip_first (zip_first s))) (iter_rest (zip_second (zip_first s))))
