-- What the PLL settings tell, as numbers: FDIV, charge pump, resistor and lock count, or the refusal.
use Rattle.std.specs.Prelude.{ℕ, List, [], ◌∷◌}
use Rattle.refusals.specs.Told.{Told, InWords}
use Rattle.pll_settings.specs.Settings.{Right, RightTarget}
use Rattle.pll_settings.specs.declared.PllConfig.{PllConfig}

abbrev pub setting_words : PllConfig → List ℕ
setting_words c = c.fdiv ∷ c.charge_pump ∷ c.loop_resistor ∷ c.lock_count ∷ []

abbrev pub PllMulTells : ℕ → Told (List ℕ) → Type 0
PllMulTells multiplier = InWords setting_words (Right multiplier)

abbrev pub PllTargetTells : ℕ → ℕ → Told (List ℕ) → Type 0
PllTargetTells crystal target = InWords setting_words (RightTarget crystal target)
