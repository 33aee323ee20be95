-- What the code's shifts come to, in the words of specs/: a word is below 2^32, and a left shift drops what passes bit 31.
-- Assumes nothing.
use mathlib.Core.Path.{◌≡◌, ◌∙◌, sym, ap, subst, refl}
use Prim.Native.Nat.{ℕ, ◌+◌, ◌-◌, ◌*◌, ◌/◌, ◌%◌, ◌^◌, ◌≤◌, ◌<◌, min}
use native.Mathlib.Nat.{mod-lt, mod-eq_of_lt, zero-mod, one-mul, div-eq_of_lt, lt_of_lt_of_le, lt_of_le_of_lt, le_of_lt, sub-add_cancel, min-eq_left, min-eq_right}
use native.Mathlib.Decide.{dec_le}
use native.Mathlib.Omega.{arith}
use lib.Pow.{pow_pos, pow_mono, pow-lt, field, mod-mod-pow, shl-shr, shr_le, shr_lt, shl_exact}
use Rattle.fields.specs.declared.Field.{Field}
use Rattle.fields.specs.Word.{read_field, set_field, inside}
use Rattle.fields.proofs.Laws.{parts, set_lt, read_lt, only}

-- 1 << k
pub one_shl : (k : ℕ) → k < 32 → 1 * 2 ^ k % 2 ^ 32 ≡ 2 ^ k
one_shl k h = rw one-mul (mod-eq_of_lt (pow-lt h))

module _ (word : ℕ) (f : Field) (w : word < 2 ^ 32) where
  -- past the word there are zeros
  pub past : 32 ≤ f.lo → 0 ≡ read_field word f
  unfolding read_field
  past h = sym (ap (λ (n : ℕ). n % 2 ^ f.width) (div-eq_of_lt (lt_of_lt_of_le w (pow_mono h))) ∙ zero-mod (2 ^ f.width))

  -- a width of 32 or more takes all that is left
  pub whole : 32 ≤ f.width → word / 2 ^ f.lo ≡ read_field word f
  unfolding read_field
  whole h = sym (mod-eq_of_lt (lt_of_le_of_lt (shr_le word f.lo) (lt_of_lt_of_le w (pow_mono h))))

-- the low bits of low bits
mod_min : (n j k : ℕ) → n % 2 ^ k % 2 ^ j ≡ n % 2 ^ min j k
mod_min n j k = elim (dec_le j k) [ yes h ↦ wide h | no h ↦ narrow (omega arith) ]
  where
    wide : j ≤ k → n % 2 ^ k % 2 ^ j ≡ n % 2 ^ min j k
    wide h = rw (min-eq_left h) (ap (λ (m : ℕ). n % 2 ^ m % 2 ^ j) (sym (sub-add_cancel h)) ∙ mod-mod-pow n (k - j) j)

    narrow : k ≤ j → n % 2 ^ k % 2 ^ j ≡ n % 2 ^ min j k
    narrow h = rw (min-eq_right h) (mod-eq_of_lt (lt_of_lt_of_le (mod-lt n (pow_pos k)) (pow_mono h)))

-- a word of 32 bits has a field as far as the field lies inside
inside_read : (word : ℕ) (f : Field) → word < 2 ^ 32 → f.lo < 32 → read_field word f ≡ read_field word (inside f)
unfolding read_field
inside_read word f w h =
    ap (λ (n : ℕ). n % 2 ^ f.width) (sym (mod-eq_of_lt (shr_lt (32 - f.lo) f.lo (rw (sub-add_cancel (le_of_lt h)) w))))
    ∙ mod_min (word / 2 ^ f.lo) f.width (32 - f.lo)

-- word - was + new, with the field's bits in place
module _ (word : ℕ) (f : Field) (value : ℕ) where
  pub had : read_field word f * 2 ^ f.lo ≤ word
  had = omega (arith, parts word f)

  pub changed : word - read_field word f * 2 ^ f.lo + value % 2 ^ f.width * 2 ^ f.lo ≡ set_field word f value
  unfolding set_field
  changed = omega (arith, parts word f)

module _ (word : ℕ) (f : Field) (value : ℕ) (w : word < 2 ^ 32) (h : f.lo < 32) where
  -- `was`
  pub was : {r : ℕ} → r ≡ read_field word f → r * 2 ^ f.lo % 2 ^ 32 ≡ read_field word (inside f) * 2 ^ f.lo
  was e = rw (e, inside_read word f w h) (mod-eq_of_lt (lt_of_le_of_lt (had word (inside f) value) w))

  low_bits : read_field (value * 2 ^ f.lo % 2 ^ 32) f ≡ value % 2 ^ (inside f).width
  unfolding read_field
  low_bits =
      ap (λ (n : ℕ). n % 2 ^ f.width)
      (ap (λ (k : ℕ). value * 2 ^ f.lo % 2 ^ k / 2 ^ f.lo) (sym (sub-add_cancel (le_of_lt h)))
      ∙ field (value * 2 ^ f.lo) (32 - f.lo) f.lo
      ∙ ap (λ (n : ℕ). n % 2 ^ (32 - f.lo)) (shl-shr value f.lo))
      ∙ mod_min value f.width (32 - f.lo)

  -- `new`: shifting up and reading takes the low bits that have room
  pub new : {r : ℕ} → r ≡ read_field (value * 2 ^ f.lo % 2 ^ 32) f → r * 2 ^ f.lo % 2 ^ 32 ≡ value % 2 ^ (inside f).width * 2 ^ f.lo
  new e =
      rw (e, low_bits)
      (shl_exact (inside f).width f.lo 32 (mod-lt value (pow_pos (inside f).width)) (omega arith))

  -- `word - was + new`: what is taken away is there, and what comes out is the word with the field set
  pub takes : {r : ℕ} → r ≡ read_field word f → r * 2 ^ f.lo % 2 ^ 32 ≤ word
  takes e = rw (was e) (had word (inside f) value)

  pub gives : {r s : ℕ} → r ≡ read_field word f → s ≡ read_field (value * 2 ^ f.lo % 2 ^ 32) f →
      word - r * 2 ^ f.lo % 2 ^ 32 + s * 2 ^ f.lo % 2 ^ 32 ≡ set_field word (inside f) value
  gives e d = rw (was e, new d) (changed word (inside f) value)

  pub fits : {r s : ℕ} → r ≡ read_field word f → s ≡ read_field (value * 2 ^ f.lo % 2 ^ 32) f →
      word - r * 2 ^ f.lo % 2 ^ 32 + s * 2 ^ f.lo % 2 ^ 32 < 2 ^ 32
  fits e d = rw (gives e d) (set_lt word (inside f) value 32 (omega arith) w)

-- setting a field past the word changes nothing
pub set_past : (word : ℕ) (f : Field) (value : ℕ) → 32 ≤ f.lo → word ≡ set_field word (inside f) value
set_past word f value h = only word (inside f) value word refl (both_zero (read_lt word (inside f)) (mod-lt value (pow_pos (inside f).width))) refl
  where
    no_width : (inside f).width ≡ 0
    no_width = omega arith

    both_zero : {a b : ℕ} → a < 2 ^ (inside f).width → b < 2 ^ (inside f).width → a ≡ b
    both_zero {a} {b} p q = omega (arith, subst (λ (k : ℕ). a < 2 ^ k) no_width p, subst (λ (k : ℕ). b < 2 ^ k) no_width q)
