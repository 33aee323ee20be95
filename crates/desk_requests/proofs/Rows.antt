-- A table's columns: of the row that has a word, each column has at its place what the row has. Assumes nothing.
use Prim.Native.Nat.{ℕ, zero, suc, ◌≤◌, ◌<◌}
use mathlib.Core.Path.{◌≡◌, refl, subst, sym, ap, ◌∙◌}
use mathlib.Core.Bool.{Bool, true, false, ◌&&◌}
use mathlib.Core.List.{List, [], ◌∷◌, map}
use lib.Dec.{T, leb, leb→le, lit≤}
use native.Mathlib.Nat.{le_of_suc-le-suc, not-suc-le-zero}
use native.Mathlib.Omega.{arith}
use lib.ListN.{length, get_or}
use Rattle.std.specs.Prelude.{Option, Some, None, MatchOption}
use Rattle.std.specs.List.{AllWithin, HoldsAt}
use Rattle.std.specs.Option.{option_copied}
use Rattle.std.specs.Borrow.{Bor}
use Rattle.std.specs.Slice.Iter.{iter_rest, iter_steps}
use Rattle.std.proofs.Common.{Iter}
use Rattle.std.proofs.Math.ListN.{length-map}
use Rattle.std.proofs.lemmas.Iterator.{YieldsList, YieldsList-from_slice}
use Rattle.words.specs.Words.{place_of}
use Rattle.words.proofs.Splitting.{placed}

at_column {ℓ ℓ'} : {A : Type ℓ} {B : Type ℓ'} (f : A → B) (l : List A) (i : ℕ) (e : B) (d : A) → i < length l → get_or (map f l) i e ≡ f (get_or l i d)
at_column f [] i e d h = absurd (not-suc-le-zero h)
at_column f (x ∷ l) zero e d h = refl
at_column f (x ∷ l) (suc i) e d h = at_column f l i e d (le_of_suc-le-suc h)

-- each of these numbers is at most 8,000
both : (a b : Bool) → T (a && b) → T a × T b
both true b t = (tt, t)
both false b t = elim t [ ]

abbrev pub every : List ℕ → Bool
every [] = true
every (n ∷ rest) = leb n 8000 && every rest

each : (numbers : List ℕ) → T (every numbers) → (i : ℕ) → get_or numbers i 0 ≤ 8000
each [] t i = lit≤ tt
each (n ∷ rest) t zero = leb→le n 8000 (both (leb n 8000) (every rest) t).0
each (n ∷ rest) t (suc i) = each rest (both (leb n 8000) (every rest) t).1 i

module _ {A : Type 0} (name : A → List ℕ) (rows : List A) (word : List ℕ) (d : A) where
  -- no row before this place has the word
  abbrev NoneTo : ℕ → Type 0
  NoneTo high = AllWithin (λ x. name x ≡ word → ⊥) rows 0 high

  none_named : (high : ℕ) → high ≤ length rows → NoneTo high → AllWithin (λ n. n ≡ word → ⊥) (map name rows) 0 high
  none_named high fits none i e low l is = none i d low l (sym (at_column name rows i e d (omega arith)) ∙ is)

  pub record First (x : A) : Type 1 where
    pub place : ℕ
    pub named : place_of word (map name rows) ≡ Some place
    pub texts : (g : A → List ℕ) (e : List ℕ) → get_or (map g rows) place e ≡ g x
    pub bounded : (g : A → ℕ) → T (every (map g rows)) → g x ≤ 8000
    pub rules : (g : A → List ℕ → List ℕ → Type 0) (e : List ℕ → List ℕ → Type 0) → get_or (map g rows) place e ≡ g x

  first : (x : A) → (name x ≡ word) × (i : ℕ) × (i < length rows) × HoldsAt (λ y. y ≡ x) rows i × NoneTo i → First x
  first x (is, i, l, holds, none) =
      let inside = subst (λ n. i < n) (sym (length-map rows name)) l in
      record {
        place = i;
        named = sym (placed word (map name rows) (Some i) (inside, (λ e. at_column name rows i e d l ∙ ap name (holds d) ∙ is), none_named i (omega arith) none));
        texts = λ g e. at_column g rows i e d l ∙ ap g (holds d);
        bounded = λ g t. subst (λ n. n ≤ 8000) (at_column g rows i 0 d l ∙ ap g (holds d)) (each (map g rows) t i);
        rules = λ g e. at_column g rows i e d l ∙ ap g (holds d);
      }

  -- what `find` says of a table
  looked_up : {P : A → Type 0} (r : Option (Bor A))
      → MatchOption r (NoneTo (length rows)) (λ x. (name x.now ≡ word) × (i : ℕ) × (i < length rows) × HoldsAt (λ y. y ≡ x.now) rows i × NoneTo i)
      → ((x : A) → First x → P x) → MatchOption (option_copied r) (place_of word (map name rows) ≡ None) P
  looked_up None none right =
      let all = subst (AllWithin (λ n. n ≡ word → ⊥) (map name rows) 0) (sym (length-map rows name)) (none_named (length rows) (omega arith) none) in
      sym (placed word (map name rows) None all)
  looked_up (Some x) found right = right x.now (first x.now found)

-- the same of the run of `find` over the rows
pub in_table : {A : Type 0} {rows : List A} {s : Iter A} → iter_rest s ≡ rows → (name : A → List ℕ) (word : List ℕ) (d : A) (r : Option (Bor A))
    → (YieldsList iter_steps (λ y. y.now) s rows → MatchOption r (NoneTo name rows word d (length rows)) (λ x. (name x.now ≡ word) × (i : ℕ) × (i < length rows) × HoldsAt (λ y. y ≡ x.now) rows i × NoneTo name rows word d i))
    → {P : A → Type 0} → ((x : A) → First name rows word d x → P x) → MatchOption (option_copied r) (place_of word (map name rows) ≡ None) P
in_table {rows = rows} rest name word d r ran right = looked_up name rows word d r (ran (YieldsList-from_slice rows rest)) right
