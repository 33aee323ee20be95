-- A number as text. `digits b k n` of the kit's crate io is the last k digits of n in base b, the most significant first.
use Rattle.std.specs.Prelude.{ℕ, zero, suc, ◌/◌, ◌%◌, cond, List, [], ◌∷◌, ◌++◌, ltb}
use Rattle.io.specs.Digits.{last_digits, hex_digit_ascii}

-- the digits of n with no zero in front, at most k + 1 of them
abbrev pub decimal_up_to : ℕ → ℕ → List ℕ
decimal_up_to zero n = hex_digit_ascii (n % 10) ∷ []
decimal_up_to (suc k) n = cond (ltb n 10) (hex_digit_ascii n ∷ []) (decimal_up_to k (n / 10) ++ (hex_digit_ascii (n % 10) ∷ []))

-- in decimal; a number of 64 bits has at most twenty digits
unfoldable pub decimal : ℕ → List ℕ
decimal n = decimal_up_to 19 n

-- as eight hex digits, in lower case
unfoldable pub hex : ℕ → List ℕ
hex n = last_digits 16 8 n
