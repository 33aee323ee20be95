-- What `uart-list` prints: how many viable pairs there are, and each in rising bdiv as CD:BDIV:ERROR after a space, the error as the
-- eight hex digits of its bits.
use Rattle.std.specs.Prelude.{ℕ, List, [], ◌∷◌, ◌++◌, Float, length, Option, Some, None}
use Rattle.text.specs.Bytes.{bytes}
use Rattle.text.specs.Page.{Contents}
use Rattle.text.specs.Digits.{decimal}
use Rattle.float32.specs.Whole.{of_whole, bits_of}
use Rattle.uart_candidate.specs.declared.BaudDivisors.{BaudDivisors}
use Rattle.uart_list.specs.Listing.{Viables}
use Rattle.forms.specs.Form.{printed}
use Rattle.forms.specs.Says.{Said}

abbrev pub entry_of : BaudDivisors → List ℕ
entry_of p = printed (bytes " #:#:$") (p.cd ∷ p.bdiv ∷ bits_of p.error ∷ [])

abbrev pub entries : List BaudDivisors → List ℕ
entries [] = []
entries (p ∷ ps) = entry_of p ++ entries ps

-- a right answer; no two numbers are refused
pub data Listed (reference baud : ℕ) : List ℕ → Type 0 where
  listed : (ps : List BaudDivisors) → Viables (of_whole reference) (of_whole baud) ps → Listed reference baud (decimal (length ps) ++ entries ps)

-- ---- what the steps promise each other

-- what one baud divider adds
abbrev pub entry : Option BaudDivisors → List ℕ
entry (Some p) = entry_of p
entry None = []

-- the viable pairs were written, within 7900 bytes
pub record Prints (reference target : Float) (before after : Contents) : Type 0 where
  pub list : List BaudDivisors
  pub viables : Viables reference target list
  pub said : Said 7900 (entries list) before after
