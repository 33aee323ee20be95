-- How near a rounded fraction is, over exact values: within one part in 2 ^ 24 wherever the fraction is at least 2 ^ -126, the smallest f32 with all its digits.
use Rattle.std.proofs.Common.{◌≡◌, ℕ, suc, ◌+◌, ◌-◌, ◌*◌, ◌/◌, ◌%◌, ◌^◌, ◌<◌, ◌≤◌, true, false, not, T, eqb, sym, ap, ◌∙◌, subst, ⊎_elim, le_trans, le_of_eq, mul-le-mul_right, mod-lt, mul_assoc, suc-mul, mul_comm, add-mul, eq-zero-or-pos, mul-le-mul_left, mul-pos, div-add-mod', le-div_iff_mul-le, mul-add, mul_right_comm, le-mul_of_pos_right, le_of_mul-le-mul_right, mul_left_comm, arith, lit<, eqb→eq, leb→le, pow_pos, pow-add}
use Prim.Native.Nat.{compare, Ordering}
use lib.Dec.{nleb→lt, eqb_refl, is_le, compare_is_eq}
use lib.Arith.{lt_of_le-ne}
use lib.Ieee.{Float, fin, binary32, size, nearest, round, of_int, nan, inf}
use lib.Ieee.Digits.{size_reaches}
use lib.Ieee.Nearest.{closest}
use lib.Ieee.Order.{drop, kept}
use lib.Ieee.Positive.{num, den, value→cross}
use lib.Ieee.Scale.{grid, finite, normal_of_fraction, round_under, round_val}
use Rattle.float32.specs.Whole.{of_whole}
use Rattle.float32.proofs.Parts.{plain}
use Rattle.float32.proofs.Bound.{LIMIT, whole}

-- ---- the nearest whole number is within a half
record Half (a b q : ℕ) : Type 0 where
  under : 2 * (q * b) ≤ 2 * a + b
  over : 2 * a ≤ 2 * (q * b) + b

abbrev Cmp : Ordering → ℕ → ℕ → Type 0
Cmp Ordering.lt a b = a < b
Cmp Ordering.eq a b = a ≡ b
Cmp Ordering.gt a b = b < a

cmp : (a b : ℕ) → Cmp (compare a b) a b
cmp a b = go (compare a b) (leb→le a b) (nleb→lt a b) (eqb→eq a b) (λ (e : a ≡ b). subst (λ (x : ℕ). T (eqb a x)) e (eqb_refl a))
  where
    go : (o : Ordering) → (T (is_le o) → a ≤ b) → (T (not (is_le o)) → b < a) → (T (compare_is_eq o) → a ≡ b) → (a ≡ b → T (compare_is_eq o)) → Cmp o a b
    go Ordering.lt h k e n = lt_of_le-ne (h tt) n
    go Ordering.eq h k e n = e tt
    go Ordering.gt h k e n = k tt

half_by : (a b w r : ℕ) (o : Ordering) → w * b + r ≡ a → r < b → Cmp o (r * 2) b → Half a b (nearest w o)
half_by a b w r Ordering.lt e l h = record { under = omega arith; over = omega arith }
half_by a b w r Ordering.eq e l h = ⊎_elim (λ (z : w % 2 ≡ 0). even z) (λ (z : 0 < w % 2). odd z) (eq-zero-or-pos (w % 2))
  where
    even : w % 2 ≡ 0 → Half a b (w + w % 2)
    even z = let p : w + w % 2 ≡ w = omega arith in rw p (record { under = omega arith; over = omega arith })

    odd : 0 < w % 2 → Half a b (w + w % 2)
    odd z = let p : w + w % 2 ≡ suc w = omega arith in let s = suc-mul w b in rw p (record { under = omega arith; over = omega arith })
half_by a b w r Ordering.gt e l h = let s = suc-mul w b in record { under = omega arith; over = omega arith }

closest_half : (a b : ℕ) → 0 < b → Half a b (closest a b)
closest_half a b p = half_by a b (a / b) (a % b) (compare (a % b * 2) b) (div-add-mod' a b) (mod-lt a p) (cmp (a % b * 2) b)

-- ---- so what is kept of n / c is within one part in 2 ^ p, where n / c has p digits at least
pub record Close (p n c g : ℕ) : Type 0 where
  pub under : g * c * 2 ^ p ≤ n * 2 ^ p + n
  pub over : n * 2 ^ p ≤ g * c * 2 ^ p + n

parts : (P n x u : ℕ) → 2 * x ≤ 2 * n + u → 2 * n ≤ 2 * x + u → P * u ≤ n → (x * (P * 2) ≤ n * (P * 2) + n) × (n * (P * 2) ≤ x * (P * 2) + n)
parts P n x u a b h =
    let a' = simp (mul-add, mul_left_comm) at (mul-le-mul_left P a) in
    let b' = simp (mul-add, mul_left_comm) at (mul-le-mul_left P b) in
    let e1 : x * (P * 2) ≡ 2 * (P * x) = simp (mul_comm, mul_left_comm) in
    let e2 : n * (P * 2) ≡ 2 * (P * n) = simp (mul_comm, mul_left_comm) in
    (omega arith, omega arith)

kept_close : (p n c : ℕ) → 0 < p → 0 < c → p ≤ size (n / c) → Close p n c (kept p n c * 2 ^ drop p n c)
kept_close p n c pp pc normal =
    let k = drop p n c in
    let u = c * 2 ^ k in
    let half = closest_half n u (mul-pos pc (pow_pos k)) in
    let big : 2 ^ (p - 1 + k) ≤ n / c = size_reaches (n / c) (p - 1 + k) (omega arith) in
    let b1 : 2 ^ (p - 1) * u ≤ n = le_trans (le_of_eq (simp (mul_comm, mul_left_comm, pow-add))) ((le-div_iff_mul-le pc).0 big) in
    let e : kept p n c * u ≡ kept p n c * 2 ^ k * c = simp (mul_assoc, mul_comm, mul_left_comm) in
    let pw : 2 ^ (p - 1) * 2 ≡ 2 ^ p = sym (pow-add 2 (p - 1) 1) ∙ ap (λ (x : ℕ). 2 ^ x) (omega arith) in
    let r = parts (2 ^ (p - 1)) n (kept p n c * 2 ^ k * c) u (rw e at half.under) (rw e at half.over) b1 in
    record { under = rw pw at r.0; over = rw pw at r.1 }

-- ---- x is within one part in 2 ^ 24 of a / c
pub record Near (a c : ℕ) (x : Float) : Type 0 where
  pub under : num x * c * 2 ^ 24 ≤ a * den x * 2 ^ 24 + a * den x
  pub over : a * den x * 2 ^ 24 ≤ num x * c * 2 ^ 24 + a * den x

-- from units of 1 / L to the fraction N / d that x is
in_units : (N L g d c P a : ℕ) → 0 < L → N * L ≡ g * d → g * c * P ≤ a * L * P + a * L → a * L * P ≤ g * c * P + a * L → (N * c * P ≤ a * d * P + a * d) × (a * d * P ≤ N * c * P + a * d)
in_units N L g d c P a l v under over =
    let e : N * c * P * L ≡ g * c * P * d = simp (mul_assoc, mul_comm, mul_left_comm) (simp mul_assoc at (ap (λ (z : ℕ). z * (c * P)) v)) in
    let f : a * L * P * d ≡ a * d * P * L = simp (mul_assoc, mul_comm, mul_left_comm) in
    let h : a * L * d ≡ a * d * L = mul_right_comm a L d in
    let u = mul-le-mul_right d under in
    let o = mul-le-mul_right d over in
    let s = add-mul (a * L * P) (a * L) d in
    let t = add-mul (a * d * P) (a * d) L in
    let w = add-mul (g * c * P) (a * L) d in
    let z = add-mul (N * c * P) (a * d) L in
    (le_of_mul-le-mul_right (omega arith) l, le_of_mul-le-mul_right (omega arith) l)

plain_finite : (x : Float) → T (plain x) → T (finite x)
plain_finite (fin false m e) p = tt
plain_finite nan p = elim p [ ]
plain_finite (inf _) p = elim p [ ]
plain_finite (fin true m e) p = elim p [ ]

pub near : (a c : ℕ) → 0 < c → c ≤ a * 2 ^ 126 → T (plain (round binary32 false a c)) → Near a c (round binary32 false a c)
near a c C h p =
    let x = round binary32 false a c in
    let normal = normal_of_fraction binary32 a c C (le_trans (mul-le-mul_left (2 ^ 23) h) (le_of_eq (mul_left_comm (2 ^ 23) a (2 ^ 126)))) in
    let k = kept_close 24 (a * 2 ^ 149) c (lit< tt) C normal in
    let v = value→cross x (grid binary32 a c) (2 ^ 149) (round_val binary32 a c (round_under binary32 a c (plain_finite x p))) in
    let r = in_units (num x) (2 ^ 149) (grid binary32 a c) (den x) c (2 ^ 24) a (pow_pos 149) v k.under k.over in
    record { under = r.0; over = r.1 }

-- a whole number of 32 bits goes to an f32 that near
pub whole_near : (n : ℕ) → 0 < n → n ≤ LIMIT → Near n 1 (of_whole n)
unfolding of_int
whole_near n h l = near n 1 (lit< tt) (le_trans h (le-mul_of_pos_right n (pow_pos 126))) (whole n l).is_plain
