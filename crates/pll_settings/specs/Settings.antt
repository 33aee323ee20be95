-- The settings of a PLL, as document 01 has them: its rows by multiplier, and the two ways to ask for one.
use Rattle.std.specs.Prelude.{ℕ, ◌≤◌, ◌<◌, ◌/◌, List, [], ◌∷◌, ◌≡◌, ◌⊎◌, Result, Ok, Err}
use Rattle.refusals.specs.Told.{Told, answered, refused}
use Rattle.refusals.specs.Number.{ZERO_INPUT, MUL_RANGE}
use Rattle.refusals.specs.Refusal.{number_of, carried_by, listed}
use Rattle.refusals.specs.declared.Refusal.{Refusal}
use Rattle.refusals.specs.declared.Refusal.TheVariants as Refuse
use Rattle.tables.specs.Table.{◌∈◌}
use Rattle.pll_settings.specs.declared.PllConfig.{PllConfig}
use Rattle.pll_settings.specs.declared.PllSettingError.{PllSettingError}
use Rattle.pll_settings.specs.declared.PllSettingError.TheVariants.{ZeroInput, MulRange}

-- A row is for the multipliers from first to last.
pub record Row : Type 0 where
  pub first : ℕ
  pub last : ℕ
  pub charge_pump : ℕ
  pub resistor : ℕ
  pub lock_count : ℕ

abbrev span : ℕ → ℕ → ℕ → ℕ → ℕ → Row
span a b p r n = record { first = a; last = b; charge_pump = p; resistor = r; lock_count = n }

abbrev one : ℕ → ℕ → ℕ → ℕ → Row
one m = span m m

-- Multipliers, charge pump, resistor, lock count.
abbrev pub rows : List Row
rows =
    one 13 2 6 750
    ∷ one 14 2 6 700
    ∷ one 15 2 6 650
    ∷ one 16 2 10 625
    ∷ one 17 2 10 575
    ∷ one 18 2 10 550
    ∷ one 19 2 10 525
    ∷ one 20 2 12 500
    ∷ one 21 2 12 475
    ∷ one 22 2 12 450
    ∷ one 23 2 12 425
    ∷ span 24 25 2 12 400
    ∷ one 26 2 12 375
    ∷ span 27 28 2 12 350
    ∷ span 29 30 2 12 325
    ∷ span 31 33 2 2 300
    ∷ span 34 36 2 2 275
    ∷ span 37 40 2 2 250
    ∷ span 41 47 3 12 250
    ∷ span 48 66 2 4 250
    ∷ []

-- FDIV is the multiplier; the other three fields are the row's.
abbrev pub config : ℕ → Row → PllConfig
config m row = record { fdiv = m; charge_pump = row.charge_pump; loop_resistor = row.resistor; lock_count = row.lock_count }

-- By multiplier.
pub data Right (m : ℕ) : Told PllConfig → Type 0 where
  out_of_range : (m < 13) ⊎ (66 < m) → Right m (refused MUL_RANGE (m ∷ []))
  by_row : (row : Row) → row ∈ rows → row.first ≤ m → m ≤ row.last → Right m (answered (config m row))

-- By target: the multiplier is target over crystal.
pub data RightTarget (crystal target : ℕ) : Told PllConfig → Type 0 where
  no_crystal : crystal ≡ 0 → RightTarget crystal target (refused ZERO_INPUT [])
  by_multiplier : {answer : Told PllConfig} → 0 < crystal → Right (target / crystal) answer → RightTarget crystal target answer

-- which refusal an error is
abbrev pub refusal_of : PllSettingError → Refusal
refusal_of ZeroInput = Refuse.ZeroInput
refusal_of (MulRange m) = Refuse.MulRange m

abbrev pub told : Result PllConfig PllSettingError → Told PllConfig
told (Ok c) = answered c
told (Err e) = refused (number_of (refusal_of e)) (listed (carried_by (refusal_of e)))
