-- What the UART's best pair is, as numbers: the clock divisor, the baud divider and the bits of the error, or the refusal.
use Rattle.std.specs.Prelude.{ℕ, List, [], ◌∷◌}
use Rattle.refusals.specs.Told.{Told, InWords}
use Rattle.float32.specs.Whole.{bits_of}
use Rattle.uart_candidate.specs.declared.BaudDivisors.{BaudDivisors}
use Rattle.uart_best.specs.Best.{Right}

abbrev pub baud_words : BaudDivisors → List ℕ
baud_words p = p.cd ∷ p.bdiv ∷ bits_of p.error ∷ []

abbrev pub UartTells : ℕ → ℕ → Told (List ℕ) → Type 0
UartTells reference baud = InWords baud_words (Right reference baud)
