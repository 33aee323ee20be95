-- What evaluation tells, as numbers: every clock of a record, in the order in which include/ogruspinu.h and the desk name them.
use Rattle.std.specs.Prelude.{ℕ, ◌≡◌, List, [], ◌∷◌, ◌++◌, get_or, Option, Some, None}
use Rattle.refusals.specs.Told.{Told, InWords}
use Rattle.io_clocks.specs.Update.{frequencies}
use Rattle.clocks.specs.declared.arm.CpuClockRatio.{CpuClockRatio}
use Rattle.clocks.specs.declared.arm.CpuClockRatio.TheVariants.{FourToTwoToOne, SixToTwoToOne}
use Rattle.clocks.specs.declared.Clocks.{Clocks}
use Rattle.evaluation.specs.Evaluated.{evaluated}

abbrev pub ratio_word : CpuClockRatio → ℕ
ratio_word FourToTwoToOne = 0
ratio_word SixToTwoToOne = 1

-- EMIO brings no clock of the chip's own: 0 Hertz, and a word of its own that says so
abbrev pub trace_word : Option ℕ → ℕ
trace_word (Some hertz) = hertz
trace_word None = 0

abbrev pub emio_word : Option ℕ → ℕ
emio_word (Some hertz) = 0
emio_word None = 1

-- the PLL outputs ARM, IO, DDR; the CPU's reference, ratio, 1x, 2x, 3x2x, 6x4x; the DDR's reference, 3x, 2x
abbrev pub chip_words : Clocks → List ℕ
chip_words c =
    c.arm_pll_out ∷ c.io_pll_out ∷ c.ddr_pll_out
    ∷ c.arm.ref_clk ∷ ratio_word c.arm.ratio ∷ c.arm.cpu_1x_clk ∷ c.arm.cpu_2x_clk ∷ c.arm.cpu_3x2x_clk ∷ c.arm.cpu_6x4x_clk
    ∷ c.ddr.ref_clk ∷ c.ddr.ddr_3x_clk ∷ c.ddr.ddr_2x_clk
    ∷ []

-- trace and whether it is EMIO's, and the PL clocks 0 to 3
abbrev pub last_words : Clocks → List ℕ
last_words c =
    trace_word c.io.trace_clk ∷ emio_word c.io.trace_clk
    ∷ get_or c.pl 0 0 ∷ get_or c.pl 1 0 ∷ get_or c.pl 2 0 ∷ get_or c.pl 3 0
    ∷ []

-- between them the IO clocks: reference, smc, qspi, sdio, uart, spi, can, pcap
abbrev pub clock_words : Clocks → List ℕ
clock_words c = chip_words c ++ frequencies c.io ++ last_words c

abbrev pub ClocksTells : ℕ → List ℕ → Told (List ℕ) → Type 0
ClocksTells crystal image = InWords clock_words (λ t. t ≡ evaluated crystal image)
