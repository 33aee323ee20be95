-- The laws of a field, once for every position and width: what setting keeps, and how reading and setting undo one another.
-- They hold of every number, so they hold of every word. A caller cites one at the names of its fields, as
-- `read_set word FDIV value`, and closes a premise on positions by `lit≤ tt`. Assumes nothing.
use mathlib.Core.Path.{◌≡◌, ◌∙◌, sym, ap, subst}
use Prim.Native.Nat.{ℕ, ◌+◌, ◌-◌, ◌*◌, ◌/◌, ◌%◌, ◌^◌, ◌≤◌, ◌<◌}
use native.Mathlib.Nat.{mod-lt, mod-eq_of_lt, mul_assoc, mul_comm, add-mul, add-sub_of_le, sub-add_cancel, div-lt_iff_lt-mul}
use native.Mathlib.Omega.{arith}
use lib.Pow.{pow_pos, pow-add, shr-shr, split, high, low, field, mod-mod-pow, shr_lt}
use Rattle.fields.specs.declared.Field.{Field}
use Rattle.fields.specs.Word.{read_field, set_field}

-- high bits over middle ones, moved up together
joined : (a b lo width : ℕ) → a * 2 ^ (lo + width) + b * 2 ^ lo ≡ (a * 2 ^ width + b) * 2 ^ lo
joined a b lo width =
    ap (λ (n : ℕ). n + b * 2 ^ lo)
    (ap (λ (n : ℕ). a * n) (pow-add 2 lo width ∙ mul_comm (2 ^ lo) (2 ^ width)) ∙ sym (mul_assoc a (2 ^ width) (2 ^ lo)))
    ∙ sym (add-mul (a * 2 ^ width) b (2 ^ lo))

module _ (word : ℕ) (f : Field) where
  -- a field is below 2 to its width
  pub read_lt : read_field word f < 2 ^ f.width
  unfolding read_field
  read_lt = mod-lt (word / 2 ^ f.lo) (pow_pos f.width)

  -- a word is its bits above the field, the field and its bits below
  pub parts :
      word / 2 ^ (f.lo + f.width) * 2 ^ (f.lo + f.width) + read_field word f * 2 ^ f.lo + word % 2 ^ f.lo
      ≡ word
  unfolding read_field
  parts =
      ap (λ (n : ℕ). n + word % 2 ^ f.lo)
      (joined (word / 2 ^ (f.lo + f.width)) (read_field word f) f.lo f.width
      ∙ ap (λ (n : ℕ). n * 2 ^ f.lo)
      (ap (λ (n : ℕ). n * 2 ^ f.width + read_field word f) (sym (shr-shr word f.lo f.width))
      ∙ split (word / 2 ^ f.lo) f.width))
      ∙ split word f.lo

  -- setting what was read changes nothing
  pub set_read : set_field word f (read_field word f) ≡ word
  unfolding set_field
  set_read = rw (mod-eq_of_lt read_lt) parts

module _ (word : ℕ) (f : Field) (value : ℕ) where
  -- from the field's first bit upwards: the bits above as they were, then the value's low bits
  upwards : ℕ
  upwards = word / 2 ^ (f.lo + f.width) * 2 ^ f.width + value % 2 ^ f.width

  from : set_field word f value / 2 ^ f.lo ≡ upwards
  unfolding set_field upwards
  from = rw joined (high upwards f.lo (mod-lt word (pow_pos f.lo)))

  -- every bit below the field is kept
  pub set_below : set_field word f value % 2 ^ f.lo ≡ word % 2 ^ f.lo
  unfolding set_field upwards
  set_below = rw joined (low upwards f.lo (mod-lt word (pow_pos f.lo)))

  -- every bit above the field is kept
  pub set_above : set_field word f value / 2 ^ (f.lo + f.width) ≡ word / 2 ^ (f.lo + f.width)
  unfolding upwards
  set_above =
      sym (shr-shr (set_field word f value) f.lo f.width)
      ∙ rw from (high (word / 2 ^ (f.lo + f.width)) f.width (mod-lt value (pow_pos f.width)))

  -- reading after setting gives the value's low bits
  pub read_set : read_field (set_field word f value) f ≡ value % 2 ^ f.width
  unfolding read_field upwards
  read_set = rw from (low (word / 2 ^ (f.lo + f.width)) f.width (mod-lt value (pow_pos f.width)))

  -- and so the value itself, where it fits
  pub read_set_fits : value < 2 ^ f.width → read_field (set_field word f value) f ≡ value
  read_set_fits h = read_set ∙ mod-eq_of_lt h

  -- a field that lies wholly below the one that was set reads as before
  pub keeps_below : (g : Field) → g.lo + g.width ≤ f.lo → read_field (set_field word f value) g ≡ read_field word g
  unfolding read_field
  keeps_below g h =
      reaches (set_field word f value)
      ∙ ap (λ (n : ℕ). n % 2 ^ (g.width + g.lo) / 2 ^ g.lo) set_below
      ∙ sym (reaches word)
    where
      reaches : (n : ℕ) → n / 2 ^ g.lo % 2 ^ g.width ≡ n % 2 ^ f.lo % 2 ^ (g.width + g.lo) / 2 ^ g.lo
      reaches n =
          sym
          (ap (λ (m : ℕ). m / 2 ^ g.lo)
          (ap (λ (k : ℕ). n % 2 ^ k % 2 ^ (g.width + g.lo)) (sym (sub-add_cancel (omega arith)))
          ∙ mod-mod-pow n (f.lo - (g.width + g.lo)) (g.width + g.lo))
          ∙ field n g.width g.lo)

  -- a field that lies wholly above the one that was set reads as before
  pub keeps_above : (g : Field) → f.lo + f.width ≤ g.lo → read_field (set_field word f value) g ≡ read_field word g
  unfolding read_field
  keeps_above g h =
      ap (λ (n : ℕ). n % 2 ^ g.width)
      (reaches (set_field word f value)
      ∙ ap (λ (n : ℕ). n / 2 ^ (g.lo - (f.lo + f.width))) set_above
      ∙ sym (reaches word))
    where
      reaches : (n : ℕ) → n / 2 ^ g.lo ≡ n / 2 ^ (f.lo + f.width) / 2 ^ (g.lo - (f.lo + f.width))
      reaches n =
          sym
          (shr-shr n (f.lo + f.width) (g.lo - (f.lo + f.width))
          ∙ ap (λ (k : ℕ). n / 2 ^ k) (add-sub_of_le h))

  -- a word of n bits that hold the field stays a word of n bits
  pub set_lt : (n : ℕ) → f.lo + f.width ≤ n → word < 2 ^ n → set_field word f value < 2 ^ n
  set_lt n h w =
      subst (λ (k : ℕ). set_field word f value < 2 ^ k) (sub-add_cancel h)
      (rw pow-add
      ((div-lt_iff_lt-mul (pow_pos (f.lo + f.width))).0
      (rw set_above (shr_lt (n - (f.lo + f.width)) (f.lo + f.width) (rw (sub-add_cancel h) w)))))

  -- no other number has the word's bits outside the field and the value's low bits in it
  pub only :
      (other : ℕ) →
      other / 2 ^ (f.lo + f.width) ≡ word / 2 ^ (f.lo + f.width) →
      read_field other f ≡ value % 2 ^ f.width →
      other % 2 ^ f.lo ≡ word % 2 ^ f.lo →
      other ≡ set_field word f value
  unfolding set_field
  only other above within below = sym (parts other f) ∙ rw (above, within, below)

-- the last value set is the one that stays
pub set_set : (word : ℕ) (f : Field) (first last : ℕ) → set_field (set_field word f first) f last ≡ set_field word f last
set_set word f first last =
    only word f last (set_field (set_field word f first) f last)
    (set_above (set_field word f first) f last ∙ set_above word f first)
    (read_set (set_field word f first) f last)
    (set_below (set_field word f first) f last ∙ set_below word f first)
