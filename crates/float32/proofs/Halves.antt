-- How `to_whole` reads an f32 from 0.5 to below 65,535.5: its bit pattern gives its whole number of halves, and so its rounding.
use Rattle.std.proofs.Common.{◌≡◌, ℕ, ◌+◌, ◌-◌, ◌*◌, ◌/◌, ◌%◌, ◌^◌, ◌<◌, ◌≤◌, min, true, false, not, T, negsuc, sym, refl, ap, ◌∙◌, true≢false, le_trans, le_of_eq, lt_of_lt_of_le, lt_of_le_of_lt, mul-le-mul_right, zero-lt-suc, mul_assoc, mul_comm, div-lt_iff_lt-mul, mul-lt-mul_of_pos_right, mul-pos, lt_of_not-le, le-div_iff_mul-le, mul_right_comm, not-le_of_lt, arith, lit<, lit≤, ltb→lt, nltb→le, pow_pos, pow_mono, pow-add, shr-shr}
use native.Mathlib.Nat.{div-div-eq-div-mul, mul-div-mul_right, add-div_right, div-eq_of_lt}
use lib.Ieee.{Float, nan, inf, fin, binary32, up, down, size, to_bits, lt, le, is_nan}
use lib.Ieee.Digits.{size-lt, size-le, size_reaches}
use lib.Ieee.Fits.{down_pos, kept-lt}
use lib.Ieee.Order.{le_of_values}
use lib.Ieee.Bits.{is_true}
use lib.Ieee.Positive.{above_of_le, le→cross}
use Rattle.float32.specs.Whole.{halves_away, to_whole}
use Rattle.float32.proofs.Tests.{holds, fails}

-- ---- the two limits
abbrev pub half : Float
half = fin false 1 (negsuc 0)

abbrev pub last : Float
last = fin false 131071 (negsuc 0)

-- 1 / 2 ≤ x < 65,535.5
abbrev pub Between : Float → Type 0
Between nan = ⊥
Between (inf s) = ⊥
Between (fin true m e) = ⊥
Between (fin false m e) = (down e ≤ m * up e * 2) × (m * up e * 2 < 131071 * down e)

pub between : (x : Float) → le half x ≡ true → lt x last ≡ true → Between x
unfolding lt
between nan l u = true≢false (sym u)
between (inf true) l u = above_of_le half (inf true) tt (holds l)
between (inf false) l u = true≢false (sym u)
between (fin true m e) l u = above_of_le half (fin true m e) tt (holds l)
between (fin false m e) l u =
    let p = le→cross half (fin false m e) tt (above_of_le half (fin false m e) tt (holds l)) (holds l) in
    let q = ltb→lt (m * up e * 2) (131071 * down e) (holds u) in
    (omega arith, q)

pub no_nan : (x : Float) → Between x → T (not (is_nan x))
unfolding is_nan
no_nan (fin false m e) h = tt
no_nan nan h = elim h [ ]
no_nan (inf _) h = elim h [ ]
no_nan (fin true m e) h = elim h [ ]

-- ---- the bit pattern
-- the whole halves of the f32 whose pattern is b, as the code has them
abbrev pub halves : ℕ → ℕ
halves b = (b % 8388608 + 8388608) / 2 ^ (149 - b / 8388608)

-- what the pattern b of a / c says of it
record Reads (b a c : ℕ) : Type 0 where
  exponent : b / 8388608 ≤ 149
  shift : 149 - b / 8388608 < 32
  cut : halves b ≡ a * 2 / c

-- d has 24 digits, the leading one counted
fields : (b k d : ℕ) → b ≡ 0 + k * 8388608 + d → 8388608 ≤ d → d < 16777216 → (b / 8388608 ≡ k + 1) × (b % 8388608 + 8388608 ≡ d)
fields b k d e lo hi = (omega arith, omega arith)

under_cap : (a b : ℕ) → a < b → a ≡ min a b
under_cap a b h = omega arith

at_cap : (a b : ℕ) → b ≤ a → b ≡ min a b
at_cap a b h = omega arith

module _ (a c : ℕ) (C : 0 < c) (lo : c ≤ a * 2) (hi : a * 2 < 131071 * c) where
  -- in units of 2 ^ -149, the smallest f32
  abbrev n : ℕ
  n = a * 2 ^ 149 / c

  dropped : ℕ
  dropped = size n - 24

  size_from : 148 < size n
  size_from = lt_of_not-le (λ (g : size n ≤ 148). not-le_of_lt (lt_of_lt_of_le (size-lt n) (pow_mono g)) from)
    where
      from : 2 ^ 148 ≤ n
      from = (le-div_iff_mul-le C).1 (le_trans (le_of_eq (mul_comm (2 ^ 148) c)) (le_trans (mul-le-mul_right (2 ^ 148) lo) (le_of_eq (mul_assoc a 2 (2 ^ 148)))))

  size_to : size n ≤ 165
  size_to = size-le n 165 ((div-lt_iff_lt-mul C).1
      (lt_of_le_of_lt (le_of_eq (sym (mul_assoc a 2 (2 ^ 148))))
      (lt_of_lt_of_le (mul-lt-mul_of_pos_right hi (pow_pos 148)) (le_trans (le_of_eq (mul_right_comm 131071 c (2 ^ 148))) (mul-le-mul_right c (lit≤ tt))))))

  kept_from : 8388608 ≤ n / 2 ^ dropped
  unfolding dropped
  kept_from = (le-div_iff_mul-le (pow_pos dropped)).1 (le_trans (le_of_eq (sym (pow-add 2 23 dropped))) (size_reaches n (23 + dropped) (let f = size_from in omega arith)))

  cut_is : (k : ℕ) → k ≤ 148 → n / 2 ^ k / 2 ^ (148 - k) ≡ a * 2 / c
  cut_is k g =
      shr-shr n k (148 - k) ∙ ap (λ (x : ℕ). n / 2 ^ x) (let h : k + (148 - k) ≡ 148 = omega arith in h)
      ∙ div-div-eq-div-mul (a * 2 ^ 149) c (2 ^ 148)
      ∙ ap (λ (x : ℕ). x / (c * 2 ^ 148)) (sym (mul_assoc a 2 (2 ^ 148)))
      ∙ mul-div-mul_right (a * 2) c (pow_pos 148)

  reads : (b : ℕ) → b ≡ 0 + dropped * 8388608 + n / 2 ^ dropped → Reads b a c
  unfolding dropped
  reads b e =
      let f = fields b dropped (n / 2 ^ dropped) e kept_from (kept-lt 24 n) in
      let u = size_from in
      let v = size_to in
      let s : 149 - b / 8388608 ≡ 148 - dropped = omega arith in
      record { exponent = omega arith; shift = omega arith; cut = rw (s, f.1) (cut_is dropped (omega arith)) }

  -- whole halves, one more, and by two
  half_up : (a * 2 / c + 1) / 2 ≡ halves_away a c
  half_up = ap (λ (x : ℕ). x / 2) (sym (add-div_right (a * 2) C)) ∙ div-div-eq-div-mul (a * 2 + c) c 2 ∙ simp mul_comm

  below : halves_away a c < 65536
  below = (div-lt_iff_lt-mul (mul-pos (zero-lt-suc 1) C)).1 (omega arith)

  few : a * 2 / c < 131071
  few = (div-lt_iff_lt-mul C).1 hi

-- ---- what `to_whole` does with the pattern of such an x
pub record Rounds (x : Float) : Type 0 where
  pub exponent : to_bits binary32 x / 8388608 ≤ 149
  pub shift : 149 - to_bits binary32 x / 8388608 < 32
  pub few : halves (to_bits binary32 x) < 131071
  pub is : (halves (to_bits binary32 x) + 1) / 2 ≡ to_whole x

pub rounds : (x : Float) → Between x → Rounds x
unfolding to_bits dropped to_whole
rounds (fin false m e) h =
    let r = reads (m * up e) (down e) (down_pos e) h.0 h.1 (to_bits binary32 (fin false m e)) refl in
    let l = below (m * up e) (down e) (down_pos e) h.0 h.1 in
    record {
      exponent = r.exponent;
      shift = r.shift;
      few = rw r.cut (few (m * up e) (down e) (down_pos e) h.0 h.1);
      is = rw r.cut (half_up (m * up e) (down e) (down_pos e) h.0 h.1 ∙ under_cap _ 65536 l);
    }
rounds nan h = elim h [ ]
rounds (inf _) h = elim h [ ]
rounds (fin true m e) h = elim h [ ]

-- ---- outside
pub beyond : (x : Float) → le half x ≡ true → lt x last ≡ false → 65536 ≡ to_whole x
unfolding lt to_whole
beyond nan l u = absurd (above_of_le half nan tt (holds l))
beyond (inf true) l u = absurd (above_of_le half (inf true) tt (holds l))
beyond (inf false) l u = refl
beyond (fin true m e) l u = absurd (above_of_le half (fin true m e) tt (holds l))
beyond (fin false m e) l u =
    let far = nltb→le (m * up e * 2) (131071 * down e) (fails u) in
    at_cap _ 65536 ((le-div_iff_mul-le (mul-pos (zero-lt-suc 1) (down_pos e))).1 (omega arith))

pub under : (x : Float) → le half x ≡ false → 0 ≡ to_whole x
unfolding to_whole le
under nan l = refl
under (inf true) l = refl
under (inf false) l = absurd (true≢false l)
under (fin true m e) l = refl
under (fin false m e) l =
    let near : m * up e * 2 < down e = lt_of_not-le (λ (g : down e ≤ m * up e * 2). true≢false (sym (is_true _ (le_of_values half (fin false m e) 1 2 (m * up e) (down e) (lit< tt) (down_pos e) (refl, refl) (refl, refl) (omega arith))) ∙ l)) in
    let z = div-eq_of_lt {n = 2 * (m * up e) + down e} {m = 2 * down e} (omega arith) in
    omega arith
