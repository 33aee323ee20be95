-- What a test over a whole list says of one entry. The test is computed once, on the list written out; these laws carry it to
-- an entry that is not known yet. Assumes nothing.
use mathlib.Core.Path.{◌≡◌, refl, ◌∙◌, subst, sym}
use mathlib.Core.Bool.{Bool, true, false, not, ◌&&◌, ◌||◌}
use mathlib.Core.List.Memᴰ
use mathlib.Core.List.{List, [], ◌∷◌}
use Prim.Native.Nat.{ℕ, zero, suc, ◌+◌, ◌<◌}
use native.Mathlib.Nat.{add-zero, zero-add, add-suc, suc-add, le_of_suc-le-suc, not-suc-le-zero}
use lib.Dec.{T}
use lib.ListN.{length, get_or}
use Rattle.tables.specs.Table.{◌∈◌, all, any, each}

-- two tests joined, taken apart and put together
pub both : (a b : Bool) → T (a && b) → T a × T b
both true b t = (tt, t)
both false b t = absurd t

pub and : (a b : Bool) → T a → T b → T (a && b)
and true b t u = u
and false b t u = absurd t

pub either : {B : Type 0} (a b : Bool) → T (a || b) → (T a → B) → (T b → B) → B
either true b t f g = f tt
either false b t f g = g t

-- a test that holds where another does
pub given : (a b : Bool) → T (not a || b) → T a → T b
given true b t u = t
given false b t u = absurd u

module _ {A : Type 0} where
  -- what holds of every entry holds of this one
  pub of_all : (f : A → Bool) {x : A} {xs : List A} → T (all f xs) → x ∈ xs → T (f x)
  of_all f {x} {xs = y ∷ ys} t (Memᴰ.head e) = subst (λ (z : A). T (f z)) (sym e) (both (f y) (all f ys) t).0
  of_all f {x} {xs = y ∷ ys} t (Memᴰ.tail m) = of_all f (both (f y) (all f ys) t).1 m
  of_all f {x = x} {xs = []} t x6 = elim x6 [ ]

  -- some entry passes: here it is
  pub of_any : (f : A → Bool) (xs : List A) → T (any f xs) → (x : A) × (x ∈ xs) × T (f x)
  of_any f [] t = absurd t
  of_any f (x ∷ xs) t = go (f x) refl t (of_any f xs)
    where
      go : (b : Bool) → f x ≡ b → T (b || any f xs) → (T (any f xs) → (y : A) × (y ∈ xs) × T (f y)) → (y : A) × (y ∈ (x ∷ xs)) × T (f y)
      go true e u later = (x, Memᴰ.head refl, subst T (sym e) tt)
      go false e u later = let found = later u in (found.0, Memᴰ.tail found.1, found.2)

  from : (f : ℕ → A → Bool) (d : A) (xs : List A) (i : ℕ) → T (each f i xs) → (k : ℕ) → k < length xs → T (f (i + k) (get_or xs k d))
  from f d [] i t k h = absurd (not-suc-le-zero h)
  from f d (x ∷ xs) i t zero h = subst (λ (m : ℕ). T (f m x)) (sym (add-zero i)) (both (f i x) (each f (suc i) xs) t).0
  from f d (x ∷ xs) i t (suc k) h =
      subst (λ (m : ℕ). T (f m (get_or xs k d))) (suc-add i k ∙ sym (add-suc i k))
      (from f d xs (suc i) (both (f i x) (each f (suc i) xs) t).1 k (le_of_suc-le-suc h))

  -- the entry at place k passes the test of place k; d stands past the end
  pub at : (f : ℕ → A → Bool) (d : A) (xs : List A) → T (each f 0 xs) → (k : ℕ) → k < length xs → T (f k (get_or xs k d))
  at f d xs t k h = subst (λ (m : ℕ). T (f m (get_or xs k d))) (zero-add k) (from f d xs 0 t k h)
