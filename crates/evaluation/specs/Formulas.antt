-- What every clock of an image is: document 01, "Evaluation". Each is a PLL's output over the product of its divisors, rounded down.
use Rattle.std.specs.Prelude.{ℕ, zero, suc, ◌*◌, List, [], ◌∷◌}
use Rattle.fields.specs.Word.{read_field}
use Rattle.registers.specs.declared.PllType.TheVariants.{Ddr}
use Rattle.registers.specs.Fields.{DIVISOR, DIV_3X, DIV_2X, RATIO}
use Rattle.registers.specs.Words.{word, ARM_PLL_CTRL, IO_PLL_CTRL, DDR_PLL_CTRL, ARM_CLK_CTRL, DDR_CLK_CTRL, SMC_CLK_CTRL, LQSPI_CLK_CTRL, SDIO_CLK_CTRL, UART_CLK_CTRL, SPI_CLK_CTRL, PCAP_CLK_CTRL, CAN_CLK_CTRL, DBG_CLK_CTRL, FPGA_0_CLK_CTRL, FPGA_1_CLK_CTRL, FPGA_2_CLK_CTRL, FPGA_3_CLK_CTRL, CLK_RATIO_SELECT}
use Rattle.sources.specs.declared.PllOutputs.{PllOutputs}
use Rattle.sources.specs.Source.{pll_output, arm_source}
use Rattle.sources.specs.Clock.{Clock, frequency, single, dual, trace_clk}
use Rattle.io_clocks.specs.declared.IoClocks.{IoClocks}
use Rattle.clocks.specs.declared.arm.ArmClocks.{ArmClocks}
use Rattle.clocks.specs.declared.arm.CpuClockRatio.{CpuClockRatio}
use Rattle.clocks.specs.declared.arm.CpuClockRatio.TheVariants.{FourToTwoToOne, SixToTwoToOne}
use Rattle.clocks.specs.declared.ddr.DdrClocks.{DdrClocks}
use Rattle.clocks.specs.declared.Clocks.{Clocks}

-- the three PLLs
abbrev pub outputs : ℕ → List ℕ → PllOutputs
outputs crystal image =
    record {
      arm_pll_out = pll_output crystal (word image ARM_PLL_CTRL);
      ddr_pll_out = pll_output crystal (word image DDR_PLL_CTRL);
      io_pll_out = pll_output crystal (word image IO_PLL_CTRL);
    }

-- the ratio word: 1 is 6:2:1, 0 is 4:2:1
abbrev pub ratio_coded : ℕ → CpuClockRatio
ratio_coded zero = FourToTwoToOne
ratio_coded (suc n) = SixToTwoToOne

abbrev pub ratio_of : ℕ → CpuClockRatio
ratio_of word = ratio_coded (read_field word RATIO)

-- by what a ratio divides q, the ARM word's source over its divisor, for 1x and 2x; 3x2x is q/2 and 6x4x is q
abbrev pub over_1x : CpuClockRatio → ℕ
over_1x FourToTwoToOne = 4
over_1x SixToTwoToOne = 6

abbrev pub over_2x : CpuClockRatio → ℕ
over_2x FourToTwoToOne = 2
over_2x SixToTwoToOne = 3

-- q over k: the source over the divisor times k, since dividing twice is dividing by the product
abbrev pub cpu : ℕ → ℕ → Clock
cpu word k = record { source = arm_source word; product = read_field word DIVISOR * k }

-- the reference is the ARM PLL's output, whatever the source field selects
abbrev pub arm_with : PllOutputs → ℕ → CpuClockRatio → ArmClocks
arm_with out word ratio =
    record {
      ref_clk = out.arm_pll_out;
      ratio = ratio;
      cpu_1x_clk = frequency out (cpu word (over_1x ratio));
      cpu_2x_clk = frequency out (cpu word (over_2x ratio));
      cpu_3x2x_clk = frequency out (cpu word 2);
      cpu_6x4x_clk = frequency out (cpu word 1);
    }

abbrev pub arm_clocks : PllOutputs → List ℕ → ArmClocks
arm_clocks out image = arm_with out (word image ARM_CLK_CTRL) (ratio_of (word image CLK_RATIO_SELECT))

-- the DDR word's two clocks, both from the DDR PLL
abbrev pub ddr_3x : ℕ → Clock
ddr_3x word = record { source = Ddr; product = read_field word DIV_3X }

abbrev pub ddr_2x : ℕ → Clock
ddr_2x word = record { source = Ddr; product = read_field word DIV_2X }

abbrev pub ddr_clocks : PllOutputs → List ℕ → DdrClocks
ddr_clocks out image =
    record {
      ref_clk = out.ddr_pll_out;
      ddr_3x_clk = frequency out (ddr_3x (word image DDR_CLK_CTRL));
      ddr_2x_clk = frequency out (ddr_2x (word image DDR_CLK_CTRL));
    }

abbrev pub io_clocks : PllOutputs → List ℕ → IoClocks
io_clocks out image =
    record {
      ref_clk = out.io_pll_out;
      smc_clk = frequency out (single (word image SMC_CLK_CTRL));
      qspi_clk = frequency out (single (word image LQSPI_CLK_CTRL));
      sdio_clk = frequency out (single (word image SDIO_CLK_CTRL));
      uart_clk = frequency out (single (word image UART_CLK_CTRL));
      spi_clk = frequency out (single (word image SPI_CLK_CTRL));
      can_clk = frequency out (dual (word image CAN_CLK_CTRL));
      pcap_2x_clk = frequency out (single (word image PCAP_CLK_CTRL));
      trace_clk = trace_clk out (word image DBG_CLK_CTRL);
    }

abbrev pub pl_clocks : PllOutputs → List ℕ → List ℕ
pl_clocks out image =
    frequency out (dual (word image FPGA_0_CLK_CTRL))
    ∷ frequency out (dual (word image FPGA_1_CLK_CTRL))
    ∷ frequency out (dual (word image FPGA_2_CLK_CTRL))
    ∷ frequency out (dual (word image FPGA_3_CLK_CTRL))
    ∷ []

-- the whole record
abbrev pub clocks_of : ℕ → List ℕ → Clocks
clocks_of crystal image =
    let out = outputs crystal image in
    record {
      ps_clk = crystal;
      arm_pll_out = out.arm_pll_out;
      io_pll_out = out.io_pll_out;
      ddr_pll_out = out.ddr_pll_out;
      arm = arm_clocks out image;
      ddr = ddr_clocks out image;
      io = io_clocks out image;
      pl = pl_clocks out image;
    }
