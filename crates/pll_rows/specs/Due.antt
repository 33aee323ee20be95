-- A PLL's registers and the row that is due, as the code has them.
use Rattle.std.specs.Prelude.{ℕ, ◌≡◌, List, [], ◌∷◌}
use Rattle.registers.specs.declared.PllType.{PllType}
use Rattle.registers.specs.Plls.{pll_ctrl, pll_cfg, pll_lock}
use Rattle.pll_rows.specs.declared.PllRegisters.{PllRegisters}
use Rattle.pll_rows.specs.declared.Due.{Due}
use Rattle.pll_rows.specs.declared.Due.TheVariants.{Read, Write, Poll, End}
use Rattle.pll_rows.specs.Sequence.{Row, read, write, poll}

abbrev pub registers_of : PllType → PllRegisters
registers_of pll = record { ctrl = pll_ctrl pll; cfg = pll_cfg pll; lock = pll_lock pll }

-- d is the first row, for the word w last read or written
abbrev pub IsDue : List Row → ℕ → Due → Type 0
IsDue [] w d = d ≡ End
IsDue (read i ∷ rows) w d = d ≡ Read i
IsDue (write i f ∷ rows) w d = d ≡ Write i (f w)
IsDue (poll i bit ∷ rows) w d = d ≡ Poll i
