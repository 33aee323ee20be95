-- One crystal and image have one result, and each call hands back one thing; GEM finds a record's PLL outputs in its row. Assumes nothing.
use Prim.Native.Nat.{ℕ}
use mathlib.Core.Path.{◌≡◌, refl, sym, ◌∙◌}
use mathlib.Core.List.{List, ◌++◌}
use native.Mathlib.Omega.{arith}
use Rattle.handing.proofs.Unique.{Single, single, Settled, settled}
use Rattle.clocks.specs.declared.Clocks.{Clocks}
use Rattle.clocks.specs.Whole.{outputs_in}
use Rattle.c_gem.specs.Tells.{outputs_in_row}
use Rattle.c_clocks.specs.Tells.{ClocksTells, clock_words}
use Rattle.c_clocks.specs.Update.{IoUpdated, short, no_such_clock, sets}

pub one : (crystal : ℕ) (image : List ℕ) → Single (ClocksTells crystal image)
one crystal image = single (λ t u x y. x ∙ sym y)

pub clocks : (crystal : ℕ) (image : List ℕ) → Settled 26 (ClocksTells crystal image)
clocks crystal image = settled (one crystal image)

pub io_update : {which hertz r q : ℕ} {before a b : List ℕ} → IoUpdated which hertz before r a → IoUpdated which hertz before q b → (r ≡ q) × (a ≡ b)
io_update (short h) (short g) = (refl, refl)
io_update (short h) (no_such_clock g y) = absurd (omega arith)
io_update (short h) (sets g y) = absurd (omega arith)
io_update (no_such_clock h x) (short g) = absurd (omega arith)
io_update (no_such_clock h x) (no_such_clock g y) = (refl, refl)
io_update (no_such_clock h x) (sets g y) = absurd (omega arith)
io_update (sets h x) (short g) = absurd (omega arith)
io_update (sets h x) (no_such_clock g y) = absurd (omega arith)
io_update (sets h x) (sets g y) = (refl, refl)

pub outputs_of_record : (c : Clocks) (rest : List ℕ) → outputs_in_row (clock_words c ++ rest) ≡ outputs_in c
outputs_of_record c rest = refl
