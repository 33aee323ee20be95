-- The numbers of the clock modules, which follow `ClockModuleId`.
use Rattle.std.specs.Prelude.{ℕ}
use Rattle.clocks.specs.declared.module_id.ClockModuleId.{ClockModuleId}
use Rattle.clocks.specs.declared.module_id.ClockModuleId.TheVariants.{Pll, Ddr, Arm, Smc, Qspi, Sdio, Uart, Spi, Pcap, Can, Fpga, Trace, Gem0, Gem1}

abbrev pub module_number : ClockModuleId → ℕ
module_number Pll = 0
module_number Ddr = 1
module_number Arm = 2
module_number Smc = 3
module_number Qspi = 4
module_number Sdio = 5
module_number Uart = 6
module_number Spi = 7
module_number Pcap = 8
module_number Can = 9
module_number Fpga = 10
module_number Trace = 11
module_number Gem0 = 12
module_number Gem1 = 13
