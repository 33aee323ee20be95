-- Where each field lies, as document 01, "The image and its fields", has it: `bits 18 12` is its 18:12, and `bit 4` its bit 4.
use Rattle.std.specs.Prelude.{ℕ, ◌+◌, ◌-◌}
use Rattle.fields.specs.declared.Field.{Field}

abbrev pub bits : ℕ → ℕ → Field
bits last first = record { lo = first; width = last + 1 - first }

abbrev pub bit : ℕ → Field
bit n = bits n n

-- PLL control

abbrev pub RESET : Field
RESET = bit 0

abbrev pub PWRDWN : Field
PWRDWN = bit 1

abbrev pub BYPASS_QUAL : Field
BYPASS_QUAL = bit 3

abbrev pub BYPASS_FORCE : Field
BYPASS_FORCE = bit 4

abbrev pub FDIV : Field
FDIV = bits 18 12

-- PLL configuration

abbrev pub LOOP_RESISTOR : Field
LOOP_RESISTOR = bits 7 4

abbrev pub CHARGE_PUMP : Field
CHARGE_PUMP = bits 11 8

abbrev pub LOCK_COUNT : Field
LOCK_COUNT = bits 21 12

-- PLL status

abbrev pub ARM_LOCK : Field
ARM_LOCK = bit 0

abbrev pub DDR_LOCK : Field
DDR_LOCK = bit 1

abbrev pub IO_LOCK : Field
IO_LOCK = bit 2

-- clock words

abbrev pub SOURCE : Field
SOURCE = bits 5 4

-- the divisor of a clock with one, and divisor 0 of a clock with two
abbrev pub DIVISOR : Field
DIVISOR = bits 13 8

-- divisor 1 of CAN, GEM and FPGA
abbrev pub DIVISOR_1 : Field
DIVISOR_1 = bits 25 20

abbrev pub DIV_3X : Field
DIV_3X = bits 25 20

abbrev pub DIV_2X : Field
DIV_2X = bits 31 26

abbrev pub TRACE_SOURCE : Field
TRACE_SOURCE = bits 6 4

-- the ratio word: 1 is 6:2:1, 0 is 4:2:1
abbrev pub RATIO : Field
RATIO = bit 0
