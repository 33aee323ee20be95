-- The number that a word stands for, read from its first byte on.
use Rattle.std.specs.Prelude.{ℕ, ◌+◌, ◌*◌, ◌^◌, cond, List, [], ◌∷◌, eqb, ltb, length, Option, Some, None, Result, Ok, Err}
use Rattle.std.specs.Char.{digit_value}
use Rattle.words.specs.declared.read.NumberError.{NumberError}
use Rattle.words.specs.declared.read.HexError.{HexError}

-- a number, where 32 bits hold it
abbrev pub fitting : ℕ → Option ℕ
fitting v = cond (ltb v (2 ^ 32)) (Some v) None

-- a number of 32 bits in a radix, where the digits in front of these came to v. A digit is `0` to `9`, and from ten on `A` or `a`.
abbrev pub number_after : ℕ → ℕ → List ℕ → Result ℕ NumberError
number_after radix v [] = cond (ltb v (2 ^ 32)) (Ok v) (Err NumberError.TooLarge)
number_after radix v (c ∷ word) = cond (ltb (digit_value c) radix) (number_after radix (v * radix + digit_value c) word) (Err NumberError.NotADigit)

unfoldable pub number_of : ℕ → List ℕ → Result ℕ NumberError
number_of radix [] = Err NumberError.Empty
number_of radix (c ∷ word) = number_after radix 0 (c ∷ word)

abbrev pub decimal_of : List ℕ → Result ℕ NumberError
decimal_of word = number_of 10 word

-- a register word: eight hex digits, which always fit
abbrev pub hex_after : ℕ → List ℕ → Result ℕ HexError
hex_after v [] = Ok v
hex_after v (c ∷ word) = cond (ltb (digit_value c) 16) (hex_after (v * 16 + digit_value c) word) (Err HexError.NotEightDigits)

unfoldable pub hex_of : List ℕ → Result ℕ HexError
hex_of [] = Err HexError.Empty
hex_of (c ∷ word) = cond (eqb (length (c ∷ word)) 8) (hex_after 0 (c ∷ word)) (Err HexError.NotEightDigits)
