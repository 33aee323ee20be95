-- The whole record with other IO clocks, and what it says of the PLLs.
use Rattle.sources.specs.declared.PllOutputs.{PllOutputs}
use Rattle.io_clocks.specs.declared.IoClocks.{IoClocks}
use Rattle.clocks.specs.declared.Clocks.{Clocks}

-- all else as it was
abbrev pub with_io : Clocks → IoClocks → Clocks
with_io clocks io =
    record {
      ps_clk = clocks.ps_clk;
      arm_pll_out = clocks.arm_pll_out;
      io_pll_out = clocks.io_pll_out;
      ddr_pll_out = clocks.ddr_pll_out;
      arm = clocks.arm;
      ddr = clocks.ddr;
      io = io;
      pl = clocks.pl;
    }

-- the PLL outputs that a record carries
abbrev pub outputs_in : Clocks → PllOutputs
outputs_in clocks =
    record {
      arm_pll_out = clocks.arm_pll_out;
      ddr_pll_out = clocks.ddr_pll_out;
      io_pll_out = clocks.io_pll_out;
    }
