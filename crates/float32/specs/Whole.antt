-- Whole numbers and f32, as document 01's UART section has them. A finite f32 `fin s m e` is exactly m * up e / down e, negative where s is true.
use Rattle.std.specs.Prelude.{ℕ, ◌+◌, ◌*◌, ◌/◌, min, true, false, pos, to_bits, Float}
use Rattle.std.specs.Float.{nan, inf, fin, binary32}
use Rattle.std.specs.Float.Ieee.{up, down, of_int}

-- a whole number to f32: the nearest one, ties to even
abbrev pub of_whole : ℕ → Float
of_whole n = of_int binary32 (pos n)

-- a / c to a whole number, halves away from zero
abbrev pub halves_away : ℕ → ℕ → ℕ
halves_away a c = (2 * a + c) / (2 * c)

-- An f32 to a whole number, as far as 16 bits and one more: 65,536 stands for all from 65,535.5 up, an infinity too.
-- What is negative has 0 nearest to it, and what is no number gets 0: a caller skips both ends.
unfoldable pub to_whole : Float → ℕ
to_whole nan = 0
to_whole (inf true) = 0
to_whole (inf false) = 65536
to_whole (fin true m e) = 0
to_whole (fin false m e) = min (halves_away (m * up e) (down e)) 65536

-- the same size, and not negative
unfoldable pub abs : Float → Float
abs nan = nan
abs (inf s) = inf false
abs (fin s m e) = fin false m e

-- the 32 bits of a float, as IEEE 754 has them; one pattern for what is no number
abbrev pub bits_of : Float → ℕ
bits_of x = to_bits binary32 x
