-- Two settings that are right for one input are the same. Of document 01's rows two tests are computed: no two ranges meet,
-- unless the rows have the same numbers, and all lie in 13 to 66. Assumes nothing.
use mathlib.Core.Path.{◌≡◌, refl, ap}
use mathlib.Core.Logic.{◌⊎◌, ⊎_elim}
use mathlib.Core.Bool.{Bool, not, ◌&&◌, ◌||◌}
use Prim.Native.Nat.{ℕ, ◌≤◌, ◌<◌}
use native.Mathlib.Nat.{le_trans}
use native.Mathlib.Omega.{arith}
use lib.Dec.{T, leb, eqb, leb→le, le→leb, eqb→eq}
use Rattle.std.specs.Prelude.{Result, Ok, Err}
use Rattle.refusals.specs.Told.{Told, answered}
use Rattle.tables.specs.Table.{◌∈◌, all}
use Rattle.tables.proofs.Table.{both, and, given, of_all}
use Rattle.pll_settings.specs.declared.PllConfig.{PllConfig}
use Rattle.pll_settings.specs.declared.PllSettingError.{PllSettingError}
use Rattle.pll_settings.specs.declared.PllSettingError.TheVariants.{ZeroInput, MulRange}
use Rattle.pll_settings.specs.Settings.{Row, rows, config, Right, out_of_range, by_row, RightTarget, no_crystal, by_multiplier, told}

abbrev same : Row → Row → Bool
same x y = eqb x.charge_pump y.charge_pump && (eqb x.resistor y.resistor && eqb x.lock_count y.lock_count)

abbrev meet : Row → Row → Bool
meet x y = leb x.first y.last && leb y.first x.last

abbrev apart : Row → Row → Bool
apart x y = not (meet x y) || same x y

abbrev within : Row → Bool
within x = leb 13 x.first && leb x.last 66

same_config : (m : ℕ) (x y : Row) → T (same x y) → config m x ≡ config m y
same_config m x y t =
    let h = both (eqb x.charge_pump y.charge_pump) (eqb x.resistor y.resistor && eqb x.lock_count y.lock_count) t in
    let g = both (eqb x.resistor y.resistor) (eqb x.lock_count y.lock_count) h.1 in
    rw (eqb→eq x.charge_pump y.charge_pump h.0, eqb→eq x.resistor y.resistor g.0, eqb→eq x.lock_count y.lock_count g.1)

one_row : (m : ℕ) (x y : Row) → x ∈ rows → y ∈ rows → x.first ≤ m → m ≤ x.last → y.first ≤ m → m ≤ y.last → config m x ≡ config m y
one_row m x y x_in y_in x_low x_high y_low y_high =
    let met = and (leb x.first y.last) (leb y.first x.last) (le→leb x.first y.last (le_trans x_low y_high)) (le→leb y.first x.last (le_trans y_low x_high)) in
    same_config m x y (given (meet x y) (same x y) (of_all (apart x) (of_all (λ (z : Row). all (apart z) rows) tt x_in) y_in) met)

no_row : (m : ℕ) (x : Row) → x ∈ rows → x.first ≤ m → m ≤ x.last → (m < 13) ⊎ (66 < m) → ⊥
no_row m x x_in low high out =
    let h = both (leb 13 x.first) (leb x.last 66) (of_all within tt x_in) in
    let a = leb→le 13 x.first h.0 in
    let b = leb→le x.last 66 h.1 in
    ⊎_elim (λ o. omega arith) (λ o. omega arith) out

pub unique : {m : ℕ} {a b : Told PllConfig} → Right m a → Right m b → a ≡ b
unique (out_of_range h) (out_of_range g) = refl
unique {m} (out_of_range h) (by_row y y_in low high) = absurd (no_row m y y_in low high h)
unique {m} (by_row x x_in low high) (out_of_range g) = absurd (no_row m x x_in low high g)
unique {m} (by_row x x_in x_low x_high) (by_row y y_in y_low y_high) = ap answered (one_row m x y x_in y_in x_low x_high y_low y_high)

pub unique_target : {crystal target : ℕ} {a b : Told PllConfig} → RightTarget crystal target a → RightTarget crystal target b → a ≡ b
unique_target (no_crystal h) (no_crystal g) = refl
unique_target (no_crystal h) (by_multiplier g r) = absurd (omega arith)
unique_target (by_multiplier h r) (no_crystal g) = absurd (omega arith)
unique_target (by_multiplier h r) (by_multiplier g s) = unique r s

-- the answer itself, and not only what it tells, is settled
pub one_answer : (x y : Result PllConfig PllSettingError) → told x ≡ told y → x ≡ y
one_answer (Ok c) (Ok d) e = cc
one_answer (Ok c) (Err ZeroInput) e = cc
one_answer (Ok c) (Err (MulRange m)) e = cc
one_answer (Err ZeroInput) (Ok d) e = cc
one_answer (Err ZeroInput) (Err ZeroInput) e = refl
one_answer (Err ZeroInput) (Err (MulRange m)) e = cc
one_answer (Err (MulRange n)) (Ok d) e = cc
one_answer (Err (MulRange n)) (Err ZeroInput) e = cc
one_answer (Err (MulRange n)) (Err (MulRange m)) e = cc
