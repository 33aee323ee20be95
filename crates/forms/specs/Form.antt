-- A form says how words are printed: what each of its bytes stands for. Words that have run out are 0.
use Rattle.std.specs.Prelude.{ℕ, ◌+◌, ◌-◌, Bool, true, false, cond, List, [], ◌∷◌, ◌++◌, eqb, get_or, drop}
use Rattle.text.specs.Bytes.{bytes}
use Rattle.text.specs.Digits.{decimal, hex}
use Rattle.forms.specs.declared.kind.Kind.{Kind}
use Rattle.forms.specs.declared.kind.Kind.TheVariants.{Number, Hex, Option, Clock, Space, Itself}

abbrev pub pick : Bool → Kind → Kind → Kind
pick true a b = a
pick false a b = b

-- `#`, `$`, `?`, `~`, `_`, or any other byte
abbrev pub kind_of : ℕ → Kind
kind_of c = pick (eqb c 35) Number (pick (eqb c 36) Hex (pick (eqb c 63) Option (pick (eqb c 126) Clock (pick (eqb c 95) Space Itself))))

-- What a byte of a form prints of the next word and the one after it. `#` is the word in decimal and `$` as eight hex digits; `?` is
-- `none` for 0, else one less in decimal; `~` is Hertz and a flag, `emio` where the flag is not 0, else the Hertz in decimal; `_` is a space,
-- so that a form can be one word.
abbrev pub item : Kind → ℕ → ℕ → ℕ → List ℕ
item Number byte word after = decimal word
item Hex byte word after = hex word
item Option byte word after = cond (eqb word 0) (bytes "none") (decimal (word - 1))
item Clock byte word after = cond (eqb after 0) (decimal word) (bytes "emio")
item Space byte word after = 32 ∷ []
item Itself byte word after = byte ∷ []

-- how many words it takes
abbrev pub takes : Kind → ℕ
takes Number = 1
takes Hex = 1
takes Option = 1
takes Clock = 2
takes Space = 0
takes Itself = 0

-- how many bytes it prints at most, of words of 32 bits
abbrev pub width : Kind → ℕ
width Number = 10
width Hex = 8
width Option = 10
width Clock = 10
width Space = 1
width Itself = 1

abbrev pub printed : List ℕ → List ℕ → List ℕ
printed [] words = []
printed (c ∷ form) words = item (kind_of c) c (get_or words 0 0) (get_or words 1 0) ++ printed form (drop (takes (kind_of c)) words)

abbrev pub most : List ℕ → ℕ
most [] = 0
most (c ∷ form) = width (kind_of c) + most form
