-- What evaluation checks, in the order of document 01, "Evaluation". The first check that a crystal and an image break decides.
use Rattle.std.specs.Prelude.{ℕ, Bool, true, false, List, [], ◌∷◌, ◌++◌, Result, Ok, Err, ⊤, eqb, ltb}
use Rattle.refusals.specs.Told.{Told, refused}
use Rattle.refusals.specs.Number.{DIVISOR_ZERO, OVERFLOW}
use Rattle.fields.specs.declared.Field.{Field}
use Rattle.fields.specs.Word.{read_field}
use Rattle.registers.specs.Fields.{FDIV, DIVISOR, DIVISOR_1, DIV_3X, DIV_2X}
use Rattle.registers.specs.Words.{word, ARM_PLL_CTRL, IO_PLL_CTRL, DDR_PLL_CTRL, ARM_CLK_CTRL, DDR_CLK_CTRL, SMC_CLK_CTRL, LQSPI_CLK_CTRL, SDIO_CLK_CTRL, UART_CLK_CTRL, SPI_CLK_CTRL, PCAP_CLK_CTRL, CAN_CLK_CTRL, DBG_CLK_CTRL, FPGA_0_CLK_CTRL, FPGA_1_CLK_CTRL, FPGA_2_CLK_CTRL, FPGA_3_CLK_CTRL}
use Rattle.sources.specs.Source.{pll_output}
use Rattle.clocks.specs.declared.module_id.ClockModuleId.{ClockModuleId}
use Rattle.clocks.specs.declared.module_id.ClockModuleId.TheVariants.{Pll, Arm, Ddr, Smc, Qspi, Sdio, Uart, Spi, Pcap, Can, Trace, Fpga}
use Rattle.clocks.specs.Module.{module_number}
use Rattle.checks.specs.declared.Check.{Check}
use Rattle.checks.specs.declared.Rule.{Rule}
use Rattle.checks.specs.declared.Rule.TheVariants.{NonZero, Fits}

-- a field that must not be 0
abbrev pub nonzero : ℕ → Field → ClockModuleId → Check
nonzero w field id = record { word = w; field = field; rule = NonZero; id = id }

-- the two divisors of a word, divisor 0 first
abbrev pub dual_checks : ℕ → ClockModuleId → List Check
dual_checks w id = nonzero w DIVISOR id ∷ nonzero w DIVISOR_1 id ∷ []

-- a PLL whose output must fit 32 bits, by its control word
abbrev pub fits : ℕ → Check
fits w = record { word = w; field = FDIV; rule = Fits; id = Pll }

abbrev pub pll_checks : List Check
pll_checks =
    nonzero ARM_PLL_CTRL FDIV Pll
    ∷ nonzero IO_PLL_CTRL FDIV Pll
    ∷ nonzero DDR_PLL_CTRL FDIV Pll
    ∷ fits ARM_PLL_CTRL
    ∷ fits IO_PLL_CTRL
    ∷ fits DDR_PLL_CTRL
    ∷ []

abbrev pub cpu_ddr_checks : List Check
cpu_ddr_checks =
    nonzero ARM_CLK_CTRL DIVISOR Arm
    ∷ nonzero DDR_CLK_CTRL DIV_3X Ddr
    ∷ nonzero DDR_CLK_CTRL DIV_2X Ddr
    ∷ []

abbrev pub io_checks : List Check
io_checks =
    nonzero SMC_CLK_CTRL DIVISOR Smc
    ∷ nonzero LQSPI_CLK_CTRL DIVISOR Qspi
    ∷ nonzero SDIO_CLK_CTRL DIVISOR Sdio
    ∷ nonzero UART_CLK_CTRL DIVISOR Uart
    ∷ nonzero SPI_CLK_CTRL DIVISOR Spi
    ∷ nonzero PCAP_CLK_CTRL DIVISOR Pcap
    ∷ dual_checks CAN_CLK_CTRL Can
    ++ nonzero DBG_CLK_CTRL DIVISOR Trace
    ∷ []

abbrev pub pl_checks : List Check
pl_checks =
    dual_checks FPGA_0_CLK_CTRL Fpga
    ++ dual_checks FPGA_1_CLK_CTRL Fpga
    ++ dual_checks FPGA_2_CLK_CTRL Fpga
    ++ dual_checks FPGA_3_CLK_CTRL Fpga

abbrev pub checks : List Check
checks = pll_checks ++ cpu_ddr_checks ++ io_checks ++ pl_checks

-- whether an image has 0 in a field
abbrev pub zero : List ℕ → ℕ → Field → Bool
zero image w field = eqb (read_field (word image w) field) 0

-- whether a PLL's output passes 32 bits
abbrev pub overflows : ℕ → List ℕ → ℕ → Bool
overflows crystal image w = ltb 4294967295 (pll_output crystal (word image w))

-- whether a crystal and an image break a rule, and a check
abbrev pub breaks : ℕ → List ℕ → ℕ → Field → Rule → Bool
breaks crystal image w field NonZero = zero image w field
breaks crystal image w field Fits = overflows crystal image w

unfoldable pub broken : ℕ → List ℕ → Check → Bool
broken crystal image check = breaks crystal image check.word check.field check.rule

-- why a crystal and an image are refused: nothing is broken, or a check is
abbrev pub Reason : Type 0
Reason = Result ⊤ Check

abbrev pub pick_reason : Bool → Reason → Reason → Reason
pick_reason true a b = a
pick_reason false a b = b

-- the first of some checks that is broken
abbrev pub first_of : (Check → Bool) → List Check → Reason
first_of test [] = Ok tt
first_of test (check ∷ more) = pick_reason (test check) (Err check) (first_of test more)

unfoldable pub reason : ℕ → List ℕ → Reason
reason crystal image = first_of (broken crystal image) checks

-- the refusal of a broken check
abbrev pub refusal_number : Rule → ℕ
refusal_number NonZero = DIVISOR_ZERO
refusal_number Fits = OVERFLOW

abbrev pub refusal : {A : Type 0} → Check → Told A
refusal check = refused (refusal_number check.rule) (module_number check.id ∷ [])
