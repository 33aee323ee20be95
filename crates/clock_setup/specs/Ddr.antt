-- The pure part of the DDR clock set-up: the reference over each divisor. A divisor of 0 is refused before one that is too wide,
-- whichever of the two it is.
use Rattle.std.specs.Prelude.{◌≡◌, [], ◌∷◌, ◌⊎◌, ℕ, ◌/◌, ◌<◌, ◌≤◌}
use Rattle.refusals.specs.Told.{Told, answered, refused}
use Rattle.refusals.specs.Number.{DIVISOR_ZERO, BAD_FIELD}
use Rattle.clocks.specs.declared.ddr.DdrClocks.{DdrClocks}
use Rattle.clocks.specs.declared.module_id.ClockModuleId.TheVariants.{Ddr}
use Rattle.clocks.specs.Module.{module_number}

pub data DdrRight (reference d₃ d₂ : ℕ) : Told DdrClocks → Type 0 where
  divisor_zero : (d₃ ≡ 0) ⊎ (d₂ ≡ 0) → DdrRight reference d₃ d₂ (refused DIVISOR_ZERO (module_number Ddr ∷ []))
  bad_field : 0 < d₃ → 0 < d₂ → (63 < d₃) ⊎ (63 < d₂) → DdrRight reference d₃ d₂ (refused BAD_FIELD [])
  clocks :
      0 < d₃ → d₃ ≤ 63 → 0 < d₂ → d₂ ≤ 63 →
      DdrRight reference d₃ d₂
      (answered (record { ref_clk = reference; ddr_3x_clk = reference / d₃; ddr_2x_clk = reference / d₂ }))
