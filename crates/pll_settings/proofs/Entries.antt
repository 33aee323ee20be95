-- The code's table of settings. Its rule is proved once, by a test that is computed over all entries: the entry at place k is that of
-- multiplier 13 + k, and is the row whose range holds it. Assumes nothing.
use mathlib.Core.Path.{◌≡◌, subst}
use mathlib.Core.Bool.{Bool}
use Prim.Native.Nat.{ℕ, ◌+◌, ◌-◌, ◌≤◌, ◌<◌}
use native.Mathlib.Omega.{arith}
use lib.ListN.{get_or}
use mathlib.Core.Logic.{◌⊎◌}
use mathlib.Core.List.{[], ◌∷◌}
use Rattle.refusals.specs.Told.{answered, refused}
use Rattle.refusals.specs.Number.{MUL_RANGE}
use Rattle.tables.proofs.Table.{at}
use Rattle.pll_settings.specs.declared.PllConfig.{PllConfig}
use Rattle.pll_settings.specs.declared.TheConstants.{ROWS}
use Rattle.pll_settings.specs.Settings.{Right, out_of_range}
use Rattle.pll_settings.proofs.Test.{right, sound}

abbrev setting : ℕ × ℕ × ℕ × ℕ → PllConfig
setting row = record { fdiv = row.0; charge_pump = row.1; loop_resistor = row.2; lock_count = row.3 }

abbrev right_at : ℕ → ℕ × ℕ × ℕ × ℕ → Bool
right_at k row = right (13 + k) (answered (setting row))

pub at_its_place : (m : ℕ) → 13 ≤ m → m ≤ 66 → Right m (answered (setting (get_or ROWS (m - 13) (0, 0, 0, 0))))
at_its_place m low high =
    subst (λ (n : ℕ). Right n (answered (setting (get_or ROWS (m - 13) (0, 0, 0, 0))))) (let e : 13 + (m - 13) ≡ m = omega arith in e)
    (sound (13 + (m - 13)) (answered (setting (get_or ROWS (m - 13) (0, 0, 0, 0)))) (at right_at (0, 0, 0, 0) ROWS tt (m - 13) (omega arith)))

pub outside : (m : ℕ) → (m < 13) ⊎ (66 < m) → Right m (refused MUL_RANGE (m ∷ []))
outside m h = out_of_range h
