-- The fewest digits that hold a number are its decimal digits, and how many these are at most.
use mathlib.Core.Path.{◌≡◌, refl, ap, ◌∙◌, subst}
use mathlib.Core.List.{List, [], ◌∷◌, ◌++◌}
use Prim.Native.Nat.{ℕ, zero, suc, ◌+◌, ◌*◌, ◌-◌, ◌/◌, ◌%◌, ◌^◌, ◌≤◌, ◌<◌}
use native.Mathlib.Nat.{pow-suc, mod-eq_of_lt, le_antisymm, one-le-pow, pow-le-pow_right, div-lt_iff_lt-mul, le-div_iff_mul-le}
use native.Mathlib.Decide.{dec_lt}
use native.Mathlib.Numerals.{add-one}
use native.Mathlib.Omega.{arith}
use borrow.Author.Tests.{lt-ltb, le-ltb}
use lib.Dec.{lit<}
use lib.ListN.{length, length-append}
use Rattle.io.specs.Digits.{last_digits, hex_digit_ascii, IsDigitCount}
use Rattle.text.specs.Digits.{decimal_up_to, decimal, hex}

not_lt_le : {a b : ℕ} → ¬ (a < b) → b ≤ a
not_lt_le h = omega arith

less_one : (j n : ℕ) → 10 ^ (suc (suc j) - 1) ≤ n → 10 ^ j * 10 ≤ n
less_one j n h = subst (λ (m : ℕ). m ≤ n) (ap (λ (i : ℕ). 10 ^ i) one ∙ pow-suc 10 j) h
  where
    one : suc (suc j) - 1 ≡ suc j
    one = omega arith

tenth : (n j : ℕ) → n < 10 ^ suc j → n / 10 < 10 ^ j
tenth n j h = (div-lt_iff_lt-mul (lit< tt)).1 (subst (λ (m : ℕ). n < m) (pow-suc 10 j) h)

one_digit : (n k : ℕ) → n < 10 → IsDigitCount 10 1 n k → k ≡ 1
one_digit n zero h f = absurd (omega (arith, f.0))
one_digit n (suc zero) h f = refl
one_digit n (suc (suc j)) h f = absurd (omega (arith, one-le-pow j 10 (lit< tt), less_one j n (f.2 (omega arith))))

-- without the last digit
shorter : (n i : ℕ) → IsDigitCount 10 1 n (suc (suc i)) → IsDigitCount 10 1 (n / 10) (suc i)
shorter n i f = (omega arith, tenth n (suc i) f.1, λ l. (le-div_iff_mul-le (lit< tt)).1 (subst (λ (m : ℕ). 10 ^ m * 10 ≤ n) one (less_one i n (f.2 (omega arith)))))
  where
    one : i ≡ suc i - 1
    one = omega arith

-- the digits of n / 10 and the last one
longer : (f n k : ℕ) → 10 ≤ n → IsDigitCount 10 1 n k → ((i : ℕ) → IsDigitCount 10 1 (n / 10) i → last_digits 10 i (n / 10) ≡ decimal_up_to f (n / 10)) → last_digits 10 k n ≡ decimal_up_to (suc f) n
longer f n zero l e g = absurd (omega (arith, e.0))
longer f n (suc zero) l e g = absurd (omega (arith, e.1))
longer f n (suc (suc i)) l e g = rw (le-ltb n 10 l) (ap (λ (d : List ℕ). d ++ (hex_digit_ascii (n % 10) ∷ [])) (g (suc i) (shorter n i e)))

spelt : (f n k : ℕ) → n < 10 ^ suc f → IsDigitCount 10 1 n k → last_digits 10 k n ≡ decimal_up_to f n
spelt zero n k h e = ap (λ (j : ℕ). last_digits 10 j n) (one_digit n k h e)
spelt (suc f) n k h e =
    elim (dec_lt n 10) [
      | yes l ↦ ap (λ (j : ℕ). last_digits 10 j n) (one_digit n k l e) ∙ simp (mod-eq_of_lt l, lt-ltb n 10 l)
      | no l ↦ longer f n k (omega arith) e (λ i d. spelt f (n / 10) i (tenth n (suc f) h) d)
    ]

pub decimal_spelt : (n k : ℕ) → n < 18446744073709551616 → IsDigitCount 10 1 n k → last_digits 10 k n ≡ decimal n
unfolding decimal
decimal_spelt n k h e = spelt 19 n k (omega arith) e

-- a number below 10 ^ suc m has no more than suc m digits
short : (f m n : ℕ) → n < 10 ^ suc m → length (decimal_up_to f n) ≤ suc m
short zero m n h = omega arith
short (suc f) zero n h = rw (lt-ltb n 10 h) (omega arith)
short (suc f) (suc m) n h =
    elim (dec_lt n 10) [
      | yes l ↦ rw (lt-ltb n 10 l) (omega arith)
      | no l ↦ rw (le-ltb n 10 (not_lt_le l)) (omega (arith, length-append (decimal_up_to f (n / 10)) (hex_digit_ascii (n % 10) ∷ []), short f m (n / 10) (tenth n (suc m) h)))
    ]

pub decimal_short : (n : ℕ) → n < 4294967296 → length (decimal n) ≤ 10
unfolding decimal
decimal_short n h = short 19 9 n (omega arith)

-- a number of 32 bits takes eight hex digits where it is to have eight at least
pub hex_spelt : (n k : ℕ) → n < 4294967296 → IsDigitCount 16 8 n k → last_digits 16 k n ≡ hex n
unfolding hex
hex_spelt n k h f =
    elim (dec_lt 8 k) [
      | yes l ↦ absurd (omega (arith, f.2 l, pow-le-pow_right {n = 16} (lit< tt) (below l)))
      | no l ↦ ap (λ (j : ℕ). last_digits 16 j n) (le_antisymm (not_lt_le l) f.0)
    ]
  where
    below : 8 < k → 8 ≤ k - 1
    below l = omega arith

length_digits : (b k n : ℕ) → length (last_digits b k n) ≡ k
length_digits b zero n = refl
length_digits b (suc k) n = length-append (last_digits b k (n / b)) (hex_digit_ascii (n % b) ∷ []) ∙ ap (λ (m : ℕ). m + 1) (length_digits b k (n / b)) ∙ add-one k

pub length_hex : (n : ℕ) → length (hex n) ≡ 8
unfolding hex
length_hex n = length_digits 16 8 n
