-- What is exact: whole numbers up to 2 ^ 24 as f32, a product of two that is no more, and between which values a rounded number lies.
use Rattle.std.proofs.Common.{◌≡◌, ℕ, ◌+◌, ◌*◌, ◌^◌, ◌<◌, ◌≤◌, false, le_trans, le_of_eq, zero-lt-suc, mul_comm, mul-pos, le-mul_of_pos_right, div-mul-le_self}
use native.Mathlib.Nat.{lt-mul-div-succ}
use lib.Ieee.{binary32, mul, of_int}
use lib.Ieee.Back.{round_whole}
use lib.Ieee.Exact.{HasValue}
use lib.Ieee.Positive.{mul_at, positive_of_value}
use Rattle.float32.specs.Whole.{of_whole, halves_away}

pub whole_exact : (n : ℕ) → n ≤ 2 ^ 24 → HasValue (of_whole n) false n 1
unfolding of_int
whole_exact n h = round_whole binary32 false n h

pub product_exact : (a b : ℕ) → 0 < a → 0 < b → a * b ≤ 2 ^ 24 → mul binary32 (of_whole a) (of_whole b) ≡ of_whole (a * b)
unfolding of_int
product_exact a b A B h =
    let u = whole_exact a (le_trans (le-mul_of_pos_right a B) h) in
    let v = whole_exact b (le_trans (le-mul_of_pos_right b A) (le_trans (le_of_eq (mul_comm b a)) h)) in
    mul_at binary32 (of_whole a) (of_whole b) a 1 b 1 (positive_of_value (of_whole a) a 1 u A) (positive_of_value (of_whole b) b 1 v B) (zero-lt-suc 0) (zero-lt-suc 0) u v

-- what halves away from zero means: n - 1 / 2 ≤ a / c < n + 1 / 2, for n the rounded number
pub rounded_between : (a c : ℕ) → 0 < c → (halves_away a c * (2 * c) ≤ 2 * a + c) × (2 * a + c < 2 * c * (halves_away a c + 1))
rounded_between a c C = (div-mul-le_self (2 * a + c) (2 * c), lt-mul-div-succ (2 * a + c) (mul-pos (zero-lt-suc 1) C))
