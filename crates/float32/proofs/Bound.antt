-- A rounded fraction that is at most b, where b is itself an f32, is at most b: so it is finite.
use Rattle.std.proofs.Common.{ℕ, zero, suc, ◌+◌, ◌*◌, ◌^◌, ◌<◌, ◌≤◌, Bool, true, false, cond, T, ltb, pos, sym, refl, ap, ◌∙◌, true≢false, le_trans, le_of_eq, lt_of_lt_of_le, lt_of_le_of_lt, mul-le-mul_right, zero-lt-suc, mul_assoc, mul_comm, mul-le-mul, mul-lt-mul_of_pos_right, mul-pos, mul-one, mul_right_comm, le_of_mul-le-mul_right, arith, lit<, lt→ltb}
use lib.Ieee.{Float, nan, inf, fin, Format, binary32, prec, emax, low, up, odd, units, down, round, lt, le, div, sub, of_int}
use lib.Ieee.Exact.{HasValue}
use lib.Ieee.Fits.{round_is, down_pos}
use lib.Ieee.Order.{round_mono}
use lib.Ieee.Positive.{num, den, den_pos, positive, value→cross, first_pos}
use Rattle.float32.specs.Whole.{of_whole, abs}
use Rattle.float32.proofs.Parts.{plain, apart, quotient, distance}
use Rattle.float32.proofs.Order.{most}

-- finite, not negative, and at most b
pub record UpTo (b : ℕ) (x : Float) : Type 0 where
  pub is_plain : T (plain x)
  pub within : num x ≤ b * den x

-- ---- what is at most a finite value is finite
odd_plain : (d q k l : ℕ) → T (plain (odd d false q k l))
unfolding odd
odd_plain d zero k l = tt
odd_plain d (suc q) k l = tt

units_plain : (f : Format) (q k : ℕ) (y : Float) → T (plain y) → T (le (units f false q k) y) → T (plain (units f false q k))
unfolding units le
units_plain f q k (fin false n d) p = go (ltb (q * 2 ^ k) (2 ^ (low f + suc (emax f))))
  where
    go : (b : Bool) → T (le (cond b (odd (suc (prec f)) false q k (low f)) (inf false)) (fin false n d)) → T (plain (cond b (odd (suc (prec f)) false q k (low f)) (inf false)))
    go true t = odd_plain (suc (prec f)) q k (low f)
    go false t = t
units_plain f q k nan p = elim p [ ]
units_plain f q k (inf _) p = elim p [ ]
units_plain f q k (fin true n d) p = elim p [ ]

round_plain : (f : Format) (a c : ℕ) (y : Float) → T (plain y) → T (le (round f false a c) y) → T (plain (round f false a c))
round_plain f a c y p t = rw (round_is f false a c) (units_plain f _ _ y p (rw (round_is f false a c) at t))

value_plain : (x : Float) (a c : ℕ) → HasValue x false a c → T (plain x)
value_plain (fin true m e) a c h = true≢false h.0
value_plain (fin false m e) a c h = tt
value_plain nan a c h = elim h [ ]
value_plain (inf _) a c h = elim h [ ]

-- b is an f32 itself
abbrev pub Holds : ℕ → Type 0
Holds b = HasValue (round binary32 false b 1) false b 1

pub up_to : (b a c : ℕ) → Holds b → 0 < c → a ≤ b * c → UpTo b (round binary32 false a c)
up_to b a c v C h =
    let x = round binary32 false a c in
    let y = round binary32 false b 1 in
    let q = value_plain y b 1 v in
    let t = round_mono binary32 a c b 1 C (zero-lt-suc 0) (rw mul-one h) in
    let p = round_plain binary32 a c y q t in
    record {
      is_plain = p;
      within = le_of_mul-le-mul_right (le_trans (most x y p q t) (le_of_eq (ap (λ (z : ℕ). z * den x) (sym (mul-one (num y)) ∙ value→cross y b 1 v) ∙ mul_right_comm b (den y) (den x)))) (den_pos y);
    }

pub from : (b a c : ℕ) → Holds b → 0 < c → b * c ≤ a → T (plain (round binary32 false a c)) → b * den (round binary32 false a c) ≤ num (round binary32 false a c)
from b a c v C h p =
    let x = round binary32 false a c in
    let y = round binary32 false b 1 in
    let q = value_plain y b 1 v in
    let t = round_mono binary32 b 1 a c (zero-lt-suc 0) C (rw mul-one h) in
    le_of_mul-le-mul_right (le_trans (le_of_eq (mul_right_comm b (den x) (den y) ∙ ap (λ (z : ℕ). z * den x) (sym (value→cross y b 1 v) ∙ mul-one (num y)))) (most y x q p t)) (den_pos y)

-- ---- whole numbers of 32 bits
abbrev pub LIMIT : ℕ
LIMIT = 2 ^ 32

pub limit : Holds LIMIT
unfolding round
limit = (refl, refl)

one : Holds 1
unfolding round
one = (refl, refl)

pub whole : (n : ℕ) → n ≤ LIMIT → UpTo LIMIT (of_whole n)
unfolding of_int
whole n h = up_to LIMIT n 1 limit (zero-lt-suc 0) (omega arith)

-- at least 1
pub record FromOne (x : Float) : Type 0 where
  pub above_zero : T (positive x)
  pub reaches : den x ≤ num x

from_one : (x : Float) → T (plain x) → den x ≤ num x → FromOne x
from_one (fin false m e) p h = record { above_zero = lt→ltb 0 m (first_pos m (up e) (lt_of_lt_of_le (down_pos e) h)); reaches = h }
from_one nan p h = elim p [ ]
from_one (inf _) p h = elim p [ ]
from_one (fin true m e) p h = elim p [ ]

pub not_zero : (n : ℕ) → 0 < n → n ≤ LIMIT → FromOne (of_whole n)
unfolding of_int
not_zero n h l =
    let r = from 1 n 1 one (zero-lt-suc 0) (omega arith) (whole n l).is_plain in
    from_one (of_whole n) (whole n l).is_plain (omega arith)

-- ---- the operations keep below the limit
pub quotient_up_to : (x y : Float) → UpTo LIMIT x → FromOne y → UpTo LIMIT (div binary32 x y)
quotient_up_to x y u v = rw (quotient binary32 x y u.is_plain v.above_zero)
    (up_to LIMIT _ _ limit (mul-pos (lt_of_lt_of_le (den_pos y) v.reaches) (den_pos x))
    (le_trans (mul-le-mul u.within v.reaches) (le_of_eq (mul_assoc LIMIT (den x) (num y) ∙ ap (λ (z : ℕ). LIMIT * z) (mul_comm (den x) (num y))))))

closer : (a b c : ℕ) → a ≤ c → b ≤ c → apart a b ≤ c
closer a b c h k = omega arith

pub distance_up_to : (x y : Float) → UpTo LIMIT x → UpTo LIMIT y → UpTo LIMIT (abs (sub binary32 x y))
distance_up_to x y u v = rw (distance binary32 x y u.is_plain v.is_plain)
    (up_to LIMIT _ _ limit (mul-pos (den_pos x) (den_pos y))
    (closer _ _ _ (le_trans (mul-le-mul_right (den y) u.within) (le_of_eq (mul_assoc LIMIT (den x) (den y))))
    (le_trans (mul-le-mul_right (den x) v.within) (le_of_eq (mul_right_comm LIMIT (den y) (den x) ∙ mul_assoc LIMIT (den x) (den y))))))

-- ---- and so below the largest f32
abbrev pub MAX : Float
MAX = fin false 16777215 (pos 104)

pub below_max : (x : Float) → UpTo LIMIT x → T (lt x MAX)
unfolding lt
below_max (fin false m e) u = lt→ltb (m * up e * 1) (16777215 * 2 ^ 104 * down e) (lt_of_le_of_lt (le_of_eq (mul-one (m * up e))) (lt_of_le_of_lt u.within (mul-lt-mul_of_pos_right (lit< tt) (down_pos e))))
below_max nan u = absurd u.is_plain
below_max (inf s) u = absurd u.is_plain
below_max (fin true m e) u = absurd u.is_plain
