-- A float's sign is the highest bit of its pattern: without it the pattern is that of the absolute value.
use Rattle.std.proofs.Common.{◌≡◌, ℕ, zero, suc, ◌+◌, ◌*◌, ◌%◌, ◌<◌, true, false, not, T, ℤ, sym, refl, ◌∙◌, true≢false, arith}
use lib.Ieee.{Float, nan, inf, fin, binary32, fits, to_bits, of_bits, nan_bits, is_nan, ne}
use lib.Ieee.Bits.{of_bits-to_bits, to_bits-lt, nan_bits_is}
use lib.Ieee.Compare.{nan_differs}
use Rattle.float32.specs.Whole.{abs}

-- what does not differ from itself is a number
pub number : (x : Float) → ne x x ≡ false → T (not (is_nan x))
unfolding is_nan
number nan e = absurd (true≢false (sym nan_differs ∙ e))
number (inf s) e = tt
number (fin s m e) p = tt

-- what is no number is its own absolute value, and has the one pattern
pub none : (x : Float) → is_nan x ≡ true → x ≡ abs x
unfolding is_nan abs
none nan e = refl
none (inf s) e = absurd (true≢false (sym e))
none (fin s m k) e = absurd (true≢false (sym e))

pub one_pattern : (x : Float) → is_nan x ≡ true → 2143289344 ≡ to_bits binary32 x
unfolding is_nan to_bits
one_pattern nan e = refl
one_pattern (inf s) e = absurd (true≢false (sym e))
one_pattern (fin s m k) e = absurd (true≢false (sym e))

pub abs_fits : (x : Float) → T (fits binary32 x) → T (fits binary32 (abs x))
unfolding abs fits
abs_fits nan h = tt
abs_fits (inf s) h = tt
abs_fits (fin s zero e) h = h
abs_fits (fin s (suc m) e) h = h

signed_fits : (m : ℕ) (e : ℤ) → T (fits binary32 (fin false m e)) → T (fits binary32 (fin true m e))
unfolding fits
signed_fits zero e h = h
signed_fits (suc m) e h = h

cleared : (k d : ℕ) → 2147483648 + k + d < 2 * 2147483648 → ((2147483648 + k + d) % 2147483648 ≡ 0 + k + d) × ((0 + k + d) % 2147483648 ≡ 0 + k + d)
cleared k d h = (omega arith, omega arith)

pub sign_off : (x : Float) → T (not (is_nan x)) → T (fits binary32 x) → to_bits binary32 x % 2147483648 ≡ to_bits binary32 (abs x)
unfolding to_bits abs is_nan
sign_off nan n h = absurd n
sign_off (inf true) n h = refl
sign_off (inf false) n h = refl
sign_off (fin true m e) n h = (cleared _ _ (to_bits-lt binary32 (fin true m e) h)).0
sign_off (fin false m e) n h = (cleared _ _ (to_bits-lt binary32 (fin true m e) (signed_fits m e h))).1

pub abs_of : (x : Float) → T (not (is_nan x)) → T (fits binary32 x) → of_bits binary32 (to_bits binary32 x % 2147483648) ≡ abs x
abs_of x n h = rw (sign_off x n h) (of_bits-to_bits binary32 (abs x) (abs_fits x h))

abs_number : (x : Float) → T (not (is_nan x)) → T (not (is_nan (abs x)))
unfolding abs is_nan
abs_number nan n = n
abs_number (inf s) n = tt
abs_number (fin s m e) n = tt

pub abs_pattern : (x : Float) → T (not (is_nan x)) → T (fits binary32 x) → T (not (nan_bits binary32 (to_bits binary32 x % 2147483648)))
abs_pattern x n h = rw (nan_bits_is binary32 (to_bits binary32 x % 2147483648), abs_of x n h) (abs_number x n)
