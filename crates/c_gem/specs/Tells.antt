-- What a GEM clock is, as numbers: Hertz, or the refusal. The PLL outputs are the first three words of a row of clocks.
use Rattle.std.specs.Prelude.{ℕ, ◌≡◌, Bool, true, false, List, [], ◌∷◌, length, get_or}
use Rattle.bounds.specs.Within.{Within}
use Rattle.refusals.specs.Told.{Told, InWords}
use Rattle.refusals.specs.Number.{NO_ROOM}
use Rattle.handing.specs.Handed.{Handed, code}
use Rattle.sources.specs.declared.PllOutputs.{PllOutputs}
use Rattle.clocks.specs.declared.module_id.ClockModuleId.{ClockModuleId}
use Rattle.clocks.specs.declared.module_id.ClockModuleId.TheVariants.{Gem0, Gem1}
use Rattle.gem.specs.Gem.{Right}

abbrev pub gem_module : Bool → ClockModuleId
gem_module true = Gem1
gem_module false = Gem0

-- that these are a record's own is the law `outputs_of_record` of crate c_clocks
abbrev pub outputs_in_row : List ℕ → PllOutputs
outputs_in_row row = record { arm_pll_out = get_or row 0 0; ddr_pll_out = get_or row 2 0; io_pll_out = get_or row 1 0 }

abbrev pub hertz_words : ℕ → List ℕ
hertz_words hertz = hertz ∷ []

abbrev pub GemTells : Bool → ℕ → List ℕ → Told (List ℕ) → Type 0
GemTells second word row = InWords hertz_words (Right (outputs_in_row row) word (gem_module second))

-- a row of clocks too short is refused before the other row is looked at
abbrev pub GemHanded : Bool → ℕ → List ℕ → List ℕ → ℕ → List ℕ → Type 0
GemHanded second word row before r after =
    Within 26 (length row) (Handed 1 (GemTells second word row) before r after) ((r ≡ code NO_ROOM (26 ∷ [])) × (after ≡ before))
