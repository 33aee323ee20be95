-- A PLL's output, and the PLL that a clock word selects: document 01, "The image and its fields" and "Evaluation", with W-205.
use Rattle.std.specs.Prelude.{ℕ, ◌*◌, Bool, cond, List, [], ◌∷◌, Option, Some, None, eqb, get_or}
use Rattle.fields.specs.Word.{read_field}
use Rattle.registers.specs.declared.PllType.{PllType}
use Rattle.registers.specs.declared.PllType.TheVariants.{Arm, Ddr, Io}
use Rattle.registers.specs.Fields.{BYPASS_FORCE, FDIV, SOURCE, TRACE_SOURCE}
use Rattle.sources.specs.declared.PllOutputs.{PllOutputs}

-- a PLL is bypassed by the force bit alone: qualifier, reset and power-down change nothing
abbrev pub bypassed : ℕ → Bool
bypassed control = eqb (read_field control BYPASS_FORCE) 1

-- what a PLL gives, for the crystal and its control word: the crystal where it is bypassed, else the crystal times FDIV. This is the one
-- place that says so.
unfoldable pub pll_output : ℕ → ℕ → ℕ
pll_output crystal control = cond (bypassed control) crystal (crystal * read_field control FDIV)

abbrev pub output_of : PllOutputs → PllType → ℕ
output_of out Arm = out.arm_pll_out
output_of out Ddr = out.ddr_pll_out
output_of out Io = out.io_pll_out

-- what a source field selects: its codes 0, 1, 2, .. in a row, and what any further code selects
abbrev pub by_code : {A : Type 0} → List A → A → ℕ → A
by_code row further code = get_or row code further

-- the source field of the ARM word: 0, 1 ARM PLL; 2 DDR; 3 IO
unfoldable pub arm_source : ℕ → PllType
arm_source word = by_code (Arm ∷ Arm ∷ Ddr ∷ []) Io (read_field word SOURCE)

-- the source field of every other clock word: 0, 1 IO PLL; 2 ARM; 3 DDR
unfoldable pub io_source : ℕ → PllType
io_source word = by_code (Io ∷ Io ∷ Arm ∷ []) Ddr (read_field word SOURCE)

-- the source field of the trace word, one bit wider: 4 to 7 is EMIO, and no PLL
unfoldable pub trace_source : ℕ → Option PllType
trace_source word = by_code (Some Io ∷ Some Io ∷ Some Arm ∷ Some Ddr ∷ []) None (read_field word TRACE_SOURCE)
