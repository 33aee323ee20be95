-- What the desk says of a word that it cannot take: which one, counted from 1, and why.
use Rattle.std.specs.Prelude.{ℕ, List, [], ◌∷◌, ◌++◌}
use Rattle.text.specs.Bytes.{bytes}
use Rattle.forms.specs.Form.{printed}
use Rattle.shapes.specs.declared.fields.Fault.{Fault}

-- a form, in which `_` is a space
abbrev pub wrong : Fault → List ℕ
wrong Fault.Missing = bytes "missing"
wrong Fault.Empty = bytes "empty"
wrong Fault.NotANumber = bytes "not_a_number"
wrong Fault.TooLarge = bytes "too_large"
wrong Fault.NotEightDigits = bytes "not_8_hex_digits"
wrong Fault.OneTooMany = bytes "one_too_many"
wrong Fault.NoSuchName = bytes "not_a_name_known_here"

-- `#` is the word's number
unfoldable pub complaint : ℕ → Fault → List ℕ
complaint word fault = printed (bytes "bad_line:_word_#_is_") (word ∷ []) ++ printed (wrong fault) (word ∷ [])
