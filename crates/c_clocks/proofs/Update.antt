-- A word set in a record's row is the record's own update: the two never drift apart. Assumes nothing.
use Prim.Native.Nat.{ℕ, zero, suc, ◌+◌, ◌≤◌}
use mathlib.Core.Path.{◌≡◌, refl, sym, ◌∙◌}
use mathlib.Core.List.{List, ◌++◌}
use native.Mathlib.Omega.{arith}
use lib.ListN.{set}
use Rattle.io_clocks.specs.declared.IoClocks.{IoClocks}
use Rattle.io_clocks.specs.Update.{SMC, Updated, frequencies}
use Rattle.clocks.specs.declared.Clocks.{Clocks}
use Rattle.clocks.specs.Whole.{with_io}
use Rattle.c_clocks.specs.Tells.{clock_words, chip_words, last_words}
use Rattle.c_clocks.specs.Update.{FIRST_IO}

-- the place in the row is the place among the IO clocks
in_row : (c : Clocks) (rest : List ℕ) (which hertz : ℕ) → which ≤ 6 →
    set (clock_words c ++ rest) (which + FIRST_IO) hertz ≡ (chip_words c ++ set (frequencies c.io) (SMC + which) hertz ++ last_words c) ++ rest
in_row c rest zero hertz h = refl
in_row c rest (suc zero) hertz h = refl
in_row c rest (suc (suc zero)) hertz h = refl
in_row c rest (suc (suc (suc zero))) hertz h = refl
in_row c rest (suc (suc (suc (suc zero)))) hertz h = refl
in_row c rest (suc (suc (suc (suc (suc zero))))) hertz h = refl
in_row c rest (suc (suc (suc (suc (suc (suc zero)))))) hertz h = refl
in_row c rest (suc (suc (suc (suc (suc (suc (suc n))))))) hertz h = absurd (omega arith)

-- whatever lies behind the record's words
pub is_update : (c : Clocks) (rest : List ℕ) (which hertz : ℕ) {io : IoClocks} → which ≤ 6 → Updated (SMC + which) hertz c.io io →
    set (clock_words c ++ rest) (which + FIRST_IO) hertz ≡ clock_words (with_io c io) ++ rest
is_update c rest which hertz {io} h u = in_row c rest which hertz h ∙ cc (sym u.own, u.trace)
