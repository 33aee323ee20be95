-- A test's outcome, as a fact.
use Rattle.std.proofs.Common.{◌≡◌, Bool, true, false, not, ◌||◌, T, ◌⊎◌, sym, subst, inl, inr}

pub holds : {b : Bool} → b ≡ true → T b
holds e = subst T (sym e) tt

pub fails : {b : Bool} → b ≡ false → T (not b)
fails e = subst (λ (x : Bool). T (not x)) (sym e) tt

pub or_split : (a b : Bool) → T (a || b) → T a ⊎ T b
or_split true b t = inl tt
or_split false b t = inr t
