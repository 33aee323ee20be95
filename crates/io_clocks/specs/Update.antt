-- What an update of an IO clock does: the clock has the new frequency, and nothing else of the record changes.
use Rattle.std.specs.Prelude.{◌≡◌, List, [], ◌∷◌, ℕ, set}
use Rattle.io_clocks.specs.declared.IoClocks.{IoClocks}

-- the record's frequencies in a row, and each updated clock's place there
abbrev pub frequencies : IoClocks → List ℕ
frequencies io =
    io.ref_clk
    ∷ io.smc_clk
    ∷ io.qspi_clk
    ∷ io.sdio_clk
    ∷ io.uart_clk
    ∷ io.spi_clk
    ∷ io.can_clk
    ∷ io.pcap_2x_clk
    ∷ []

abbrev pub SMC : ℕ
SMC = 1

abbrev pub QSPI : ℕ
QSPI = 2

abbrev pub SDIO : ℕ
SDIO = 3

abbrev pub UART : ℕ
UART = 4

abbrev pub SPI : ℕ
SPI = 5

abbrev pub CAN : ℕ
CAN = 6

abbrev pub PCAP_2X : ℕ
PCAP_2X = 7

pub record Updated (place hertz : ℕ) (before after : IoClocks) : Type 0 where
  pub own : frequencies after ≡ set (frequencies before) place hertz
  pub trace : after.trace_clk ≡ before.trace_clk
