-- The refusals by name: document 01's, and those that document 02's requests add (14 to 19). docs/REFUSALS.md says which call gives which.
use Rattle.std.specs.Prelude.{ℕ}

abbrev pub BAD_IMAGE : ℕ
BAD_IMAGE = 1

abbrev pub DIVISOR_ZERO : ℕ
DIVISOR_ZERO = 2

abbrev pub OVERFLOW : ℕ
OVERFLOW = 3

abbrev pub ZERO_INPUT : ℕ
ZERO_INPUT = 4

abbrev pub MUL_RANGE : ℕ
MUL_RANGE = 5

abbrev pub ZERO_TARGET : ℕ
ZERO_TARGET = 6

abbrev pub BAD_MAX : ℕ
BAD_MAX = 7

abbrev pub NO_PAIR : ℕ
NO_PAIR = 8

abbrev pub NO_ROOM : ℕ
NO_ROOM = 9

abbrev pub SPEED : ℕ
SPEED = 10

abbrev pub LOCK_TIMEOUT : ℕ
LOCK_TIMEOUT = 11

abbrev pub BAD_LIMIT : ℕ
BAD_LIMIT = 12

abbrev pub ALREADY : ℕ
ALREADY = 13

abbrev pub ZERO_CLOCK : ℕ
ZERO_CLOCK = 14

abbrev pub BAD_SETTINGS : ℕ
BAD_SETTINGS = 15

abbrev pub NEWER : ℕ
NEWER = 16

abbrev pub NOT_YOURS : ℕ
NOT_YOURS = 17

abbrev pub BAD_ROWS : ℕ
BAD_ROWS = 18

abbrev pub TRACE_LONG : ℕ
TRACE_LONG = 19

abbrev pub BAD_FIELD : ℕ
BAD_FIELD = 20
