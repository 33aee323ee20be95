-- The order of floats that are finite and not negative is that of the fractions which they are.
use Rattle.std.proofs.Common.{◌≡◌, ◌*◌, ◌<◌, ◌≤◌, true, false, T, eqb, ◌⊎◌, sym, refl, inl, inr, le_of_eq, le_refl, lt_of_lt_of_le, le_of_lt, lt_irrefl, le_antisymm, eqb→eq, ltb→lt, nltb→le}
use lib.Ieee.{Float, fin, up, down, lt, eq, le, nan, inf}
use lib.Ieee.Exact.{HasValue}
use lib.Ieee.Fits.{and_l, and_i, eq→eqb}
use lib.Ieee.Order.{le_of_values}
use lib.Ieee.Positive.{num, den, den_pos, through}
use Rattle.float32.proofs.Tests.{fails, or_split}
use Rattle.float32.proofs.Parts.{plain}

pub value : (x : Float) → T (plain x) → HasValue x false (num x) (den x)
value (fin false m e) p = (refl, refl)
value nan p = elim p [ ]
value (inf _) p = elim p [ ]
value (fin true m e) p = elim p [ ]

-- ---- from the test to the numbers
pub less : (x y : Float) → T (plain x) → T (plain y) → T (lt x y) → num x * den y < num y * den x
unfolding lt
less (fin false m e) (fin false n d) p q t = ltb→lt (m * up e * down d) (n * up d * down e) t
less nan y p q t = elim p [ ]
less (inf _) y p q t = elim p [ ]
less (fin false m e) nan p q t = elim q [ ]
less (fin false m e) (inf _) p q t = elim q [ ]
less (fin false m e) (fin true n d) p q t = elim q [ ]
less (fin true m e) y p q t = elim p [ ]

pub same : (x y : Float) → T (plain x) → T (plain y) → T (eq x y) → num x * den y ≡ num y * den x
unfolding eq
same (fin false m e) (fin false n d) p q t = eqb→eq (m * up e * down d) (n * up d * down e) (and_l (eqb (m * up e * down d) (n * up d * down e)) true t)
same nan y p q t = elim p [ ]
same (inf _) y p q t = elim p [ ]
same (fin false m e) nan p q t = elim q [ ]
same (fin false m e) (inf _) p q t = elim q [ ]
same (fin false m e) (fin true n d) p q t = elim q [ ]
same (fin true m e) y p q t = elim p [ ]

pub most : (x y : Float) → T (plain x) → T (plain y) → T (le x y) → num x * den y ≤ num y * den x
unfolding le
most x y p q t = go (or_split (lt x y) (eq x y) t)
  where
    go : T (lt x y) ⊎ T (eq x y) → num x * den y ≤ num y * den x
    go (inl l) = le_of_lt (less x y p q l)
    go (inr e) = le_of_eq (same x y p q e)

-- ---- and back
pub at_most : (x y : Float) → T (plain x) → T (plain y) → num x * den y ≤ num y * den x → T (le x y)
at_most x y p q h = le_of_values x y (num x) (den x) (num y) (den y) (den_pos x) (den_pos y) (value x p) (value y q) h

pub equal : (x y : Float) → T (plain x) → T (plain y) → num x * den y ≡ num y * den x → T (eq x y)
unfolding eq
equal (fin false m e) (fin false n d) p q h = and_i (eqb (m * up e * down d) (n * up d * down e)) true (eq→eqb h) tt
equal nan y p q h = elim p [ ]
equal (inf _) y p q h = elim p [ ]
equal (fin false m e) nan p q h = elim q [ ]
equal (fin false m e) (inf _) p q h = elim q [ ]
equal (fin false m e) (fin true n d) p q h = elim q [ ]
equal (fin true m e) y p q h = elim p [ ]

pub not_less : (x y : Float) → T (plain x) → T (plain y) → lt x y ≡ false → T (le y x)
unfolding lt
not_less (fin false m e) (fin false n d) p q t = at_most (fin false n d) (fin false m e) tt tt (nltb→le (m * up e * down d) (n * up d * down e) (fails t))
not_less nan y p q t = elim p [ ]
not_less (inf _) y p q t = elim p [ ]
not_less (fin false m e) nan p q t = elim q [ ]
not_less (fin false m e) (inf _) p q t = elim q [ ]
not_less (fin false m e) (fin true n d) p q t = elim q [ ]
not_less (fin true m e) y p q t = elim p [ ]

-- ---- laws
pub itself : (x : Float) → T (plain x) → T (le x x)
itself x p = at_most x x p p (le_refl (num x * den x))

pub both : (x y : Float) → T (plain x) → T (plain y) → T (le x y) → T (le y x) → T (eq x y)
both x y p q h k = equal x y p q (le_antisymm (most x y p q h) (most y x q p k))

pub onward : (x y z : Float) → T (plain x) → T (plain y) → T (plain z) → T (lt x y) → T (le y z) → T (le x z)
onward x y z p q r h k = at_most x z p r (through (num x) (num y) (num z) (den x) (den y) (den z) (den_pos y) (le_of_lt (less x y p q h)) (most y z q r k))

-- what is below y does not equal anything from y up
pub strict : (x y z : Float) → T (plain x) → T (plain y) → T (plain z) → T (lt x y) → T (le y z) → T (eq x z) → ⊥
strict x y z p q r h k e =
    lt_irrefl (num x * den y)
    (lt_of_lt_of_le (less x y p q h) (through (num y) (num z) (num x) (den y) (den z) (den x) (den_pos z) (most y z q r k) (le_of_eq (sym (same x z p r e)))))
