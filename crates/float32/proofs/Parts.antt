-- Operations on floats that are finite and not negative, each as one rounding of the exact fraction. `num x / den x` is x.
use Rattle.std.proofs.Common.{◌≡◌, ℕ, zero, suc, ◌+◌, ◌-◌, ◌*◌, ◌^◌, ◌<◌, ◌≤◌, Bool, true, false, cond, not, ◌&&◌, T, eqb, ltb, refl, ap, ◌∙◌, arith, eqb→eq, ltb→lt, nltb→le}
use lib.Dec.{not_T}
use lib.Ieee.{Float, nan, inf, fin, Format, prec, emax, low, up, down, odd, units, round, sum, sub, mul, div}
use lib.Ieee.Bits.{cond_no}
use lib.Ieee.Fits.{round_is}
use lib.Ieee.Positive.{num, den, positive}
use Rattle.float32.specs.Whole.{abs}

-- finite, and not negative
abbrev pub plain : Float → Bool
plain nan = false
plain (inf s) = false
plain (fin true m e) = false
plain (fin false m e) = true

pub positive_plain : (x : Float) → T (positive x) → T (plain x)
positive_plain (fin false m e) p = tt
positive_plain nan p = elim p [ ]
positive_plain (inf _) p = elim p [ ]
positive_plain (fin true m e) p = elim p [ ]

-- how far a and b are apart
abbrev pub apart : ℕ → ℕ → ℕ
apart a b = a - b + (b - a)

below : (a b : ℕ) → a < b → b - a ≡ apart a b
below a b h = omega arith

above : (a b : ℕ) → b ≤ a → a - b ≡ apart a b
above a b h = omega arith

not_zero : (n : ℕ) → 0 < n → n ≡ 0 → ⊥
not_zero n h e = omega arith

pub product : (f : Format) (x y : Float) → T (plain x) → T (plain y) → mul f x y ≡ round f false (num x * num y) (den x * den y)
unfolding mul
product f (fin false m e) (fin false n d) p q = refl
product f nan y p q = elim p [ ]
product f (inf _) y p q = elim p [ ]
product f (fin false m e) nan p q = elim q [ ]
product f (fin false m e) (inf _) p q = elim q [ ]
product f (fin false m e) (fin true n d) p q = elim q [ ]
product f (fin true m e) y p q = elim p [ ]

pub quotient : (f : Format) (x y : Float) → T (plain x) → T (positive y) → div f x y ≡ round f false (num x * den y) (num y * den x)
unfolding div
quotient f (fin false m e) (fin false n d) p q = cond_no (eqb n 0) _ (round f false (m * up e * down d) (n * up d * down e)) (not_T (eqb n 0) (λ (t : T (eqb n 0)). not_zero n (ltb→lt 0 n q) (eqb→eq n 0 t)))
quotient f nan y p q = elim p [ ]
quotient f (inf _) y p q = elim p [ ]
quotient f (fin false m e) nan p q = elim q [ ]
quotient f (fin false m e) (inf _) p q = elim q [ ]
quotient f (fin false m e) (fin true n d) p q = elim q [ ]
quotient f (fin true m e) y p q = elim p [ ]

-- ---- the absolute value of what was rounded
abs_odd : (d : ℕ) (s : Bool) (q k l : ℕ) → abs (odd d s q k l) ≡ odd d false q k l
unfolding abs odd
abs_odd d s zero k l = refl
abs_odd d s (suc q) k l = refl

abs_units : (f : Format) (s : Bool) (q k : ℕ) → abs (units f s q k) ≡ units f false q k
unfolding units abs
abs_units f s q k = go (ltb (q * 2 ^ k) (2 ^ (low f + suc (emax f))))
  where
    go : (b : Bool) → abs (cond b (odd (suc (prec f)) s q k (low f)) (inf s)) ≡ cond b (odd (suc (prec f)) false q k (low f)) (inf false)
    go true = abs_odd (suc (prec f)) s q k (low f)
    go false = refl

abs_round : (f : Format) (s : Bool) (a c : ℕ) → abs (round f s a c) ≡ round f false a c
abs_round f s a c = rw (round_is f s a c, round_is f false a c) (abs_units f s _ _)

pub distance : (f : Format) (x y : Float) → T (plain x) → T (plain y) → abs (sub f x y) ≡ round f false (apart (num x * den y) (num y * den x)) (den x * den y)
unfolding sub sum
distance f (fin false m e) (fin false n d) p q = go (ltb a b) (ltb→lt a b) (nltb→le a b)
  where
    a : ℕ
    a = m * up e * down d

    b : ℕ
    b = n * up d * down e

    c : ℕ
    c = down e * down d

    go : (t : Bool) → (T t → a < b) → (T (not t) → b ≤ a) → abs (cond t (round f true (b - a) c) (round f (false && ltb b a) (a - b) c)) ≡ round f false (apart a b) c
    go true l g = abs_round f true (b - a) c ∙ ap (λ (z : ℕ). round f false z c) (let h = l tt in below a b h)
    go false l g = abs_round f false (a - b) c ∙ ap (λ (z : ℕ). round f false z c) (above a b (g tt))
distance f nan y p q = elim p [ ]
distance f (inf _) y p q = elim p [ ]
distance f (fin false m e) nan p q = elim q [ ]
distance f (fin false m e) (inf _) p q = elim q [ ]
distance f (fin false m e) (fin true n d) p q = elim q [ ]
distance f (fin true m e) y p q = elim p [ ]
