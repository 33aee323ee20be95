-- What is wrong with a word that is not read as a number or a register's.
use Rattle.words.specs.declared.read.NumberError.{NumberError}
use Rattle.words.specs.declared.read.HexError.{HexError}
use Rattle.shapes.specs.declared.fields.Fault.{Fault}

abbrev pub of_number : NumberError → Fault
of_number NumberError.Empty = Fault.Empty
of_number NumberError.NotADigit = Fault.NotANumber
of_number NumberError.TooLarge = Fault.TooLarge

abbrev pub of_hex : HexError → Fault
of_hex HexError.Empty = Fault.Empty
of_hex HexError.NotEightDigits = Fault.NotEightDigits
