-- One word, read by the kind that a shape asks for.
use Rattle.std.specs.Prelude.{ℕ, cond, List, [], ◌∷◌, ltb, Option, Some, None, Result, Ok, Err}
use Rattle.text.specs.Bytes.{bytes}
use Rattle.words.specs.Reading.{decimal_of, hex_of}
use Rattle.words.specs.Words.{words, place_of}
use Rattle.words.specs.declared.read.NumberError.{NumberError}
use Rattle.words.specs.declared.read.HexError.{HexError}
use Rattle.shapes.specs.Fault.{of_number, of_hex}
use Rattle.shapes.specs.declared.fields.Fault.{Fault}
use Rattle.shapes.specs.declared.kind.Kind.{Kind}
use Rattle.shapes.specs.declared.kind.Kind.TheVariants.{Register, Speed, Pll, Flag, Byte, HalfWord, Number}

-- a decimal number of at most `most`
abbrev pub up_to : ℕ → Result ℕ NumberError → Result ℕ Fault
up_to most (Ok v) = cond (ltb most v) (Err Fault.TooLarge) (Ok v)
up_to most (Err e) = Err (of_number e)

abbrev pub number : ℕ → List ℕ → Result ℕ Fault
number most word = up_to most (decimal_of word)

-- a word of eight hex digits
abbrev pub eight_digits : Result ℕ HexError → Result ℕ Fault
eight_digits (Ok v) = Ok v
eight_digits (Err e) = Err (of_hex e)

abbrev pub register : List ℕ → Result ℕ Fault
register word = eight_digits (hex_of word)

-- one of a few names, read as its place among them
abbrev pub known : Option ℕ → Result ℕ Fault
known (Some i) = Ok i
known None = Err Fault.NoSuchName

unfoldable pub name : List (List ℕ) → List ℕ → Result ℕ Fault
name names [] = Err Fault.Empty
name names (c ∷ word) = known (place_of (c ∷ word) names)

abbrev pub field_of : Kind → List ℕ → Result ℕ Fault
field_of Register word = register word
field_of Speed word = name (words (bytes "normal fast")) word
field_of Pll word = name (words (bytes "arm ddr io")) word
field_of Flag word = number 1 word
field_of Byte word = number 255 word
field_of HalfWord word = number 65535 word
field_of Number word = number 4294967295 word
