-- The four PL clocks of an image, undivided.
use Rattle.std.specs.Prelude.{ℕ, List, [], ◌∷◌, get_or}
use Rattle.registers.specs.Words.{word, FPGA_0_CLK_CTRL, FPGA_1_CLK_CTRL, FPGA_2_CLK_CTRL, FPGA_3_CLK_CTRL}
use Rattle.sources.specs.declared.PllOutputs.{PllOutputs}
use Rattle.sources.specs.Source.{output_of}
use Rattle.sources.specs.Clock.{dual}
use Rattle.ratio_table.specs.declared.Undivided.{Undivided}

abbrev pub pl_words : List ℕ
pl_words = FPGA_0_CLK_CTRL ∷ FPGA_1_CLK_CTRL ∷ FPGA_2_CLK_CTRL ∷ FPGA_3_CLK_CTRL ∷ []

-- a clock word's source, undivided, and the product of its two divisors
abbrev pub undivided : PllOutputs → ℕ → Undivided
undivided out control = record { source = output_of out (dual control).source; product = (dual control).product }

-- PL clock i
abbrev pub pl_clock : PllOutputs → List ℕ → ℕ → Undivided
pl_clock out image i = undivided out (word image (get_or pl_words i 0))
