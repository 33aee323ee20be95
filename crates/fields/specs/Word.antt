-- A field of a word, and a word with a field set, over any position and width.
use Rattle.std.specs.Prelude.{ℕ, ◌+◌, ◌-◌, ◌*◌, ◌/◌, ◌%◌, ◌^◌, min}
use Rattle.fields.specs.declared.Field.{Field}

-- the field's bits, as a number
unfoldable pub read_field : ℕ → Field → ℕ
read_field word f = word / 2 ^ f.lo % 2 ^ f.width

-- the bits above the field as they were, the low bits of the value in the field's place, the bits below as they were
unfoldable pub set_field : ℕ → Field → ℕ → ℕ
set_field word f value =
    word / 2 ^ (f.lo + f.width) * 2 ^ (f.lo + f.width) + value % 2 ^ f.width * 2 ^ f.lo + word % 2 ^ f.lo

-- the part of a field that lies in a word of 32 bits: every field of a register lies there whole, so that `inside FDIV` is `FDIV`
abbrev pub inside : Field → Field
inside f = record { lo = f.lo; width = min f.width (32 - f.lo) }
