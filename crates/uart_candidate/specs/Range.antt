-- The baud dividers that are tried. Every promise and every law on the UART takes the range from here.
use Rattle.std.specs.Prelude.{ℕ, ◌≤◌}

abbrev pub FIRST : ℕ
FIRST = 4

abbrev pub LAST : ℕ
LAST = 254

-- how many they are, and so the most pairs that a list can have
abbrev pub COUNT : ℕ
COUNT = 251

-- the largest product of a clock divisor and bdiv + 1
abbrev pub LARGEST : ℕ
LARGEST = 16711425

pub record InRange (bdiv : ℕ) : Type 0 where
  pub from : FIRST ≤ bdiv
  pub to : bdiv ≤ LAST
