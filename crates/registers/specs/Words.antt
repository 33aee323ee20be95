-- Which word of the image is which register: document 01, "The image and its fields". Word i is the SLCR's offset 0x100 + 4i.
use Rattle.std.specs.Prelude.{ℕ, List, get_or}

-- how many words an image has
abbrev pub WORDS : ℕ
WORDS = 50

abbrev pub ARM_PLL_CTRL : ℕ
ARM_PLL_CTRL = 0

abbrev pub DDR_PLL_CTRL : ℕ
DDR_PLL_CTRL = 1

abbrev pub IO_PLL_CTRL : ℕ
IO_PLL_CTRL = 2

abbrev pub PLL_STATUS : ℕ
PLL_STATUS = 3

abbrev pub ARM_PLL_CFG : ℕ
ARM_PLL_CFG = 4

abbrev pub DDR_PLL_CFG : ℕ
DDR_PLL_CFG = 5

abbrev pub IO_PLL_CFG : ℕ
IO_PLL_CFG = 6

abbrev pub ARM_CLK_CTRL : ℕ
ARM_CLK_CTRL = 8

abbrev pub DDR_CLK_CTRL : ℕ
DDR_CLK_CTRL = 9

abbrev pub GEM_0_CLK_CTRL : ℕ
GEM_0_CLK_CTRL = 16

abbrev pub GEM_1_CLK_CTRL : ℕ
GEM_1_CLK_CTRL = 17

abbrev pub SMC_CLK_CTRL : ℕ
SMC_CLK_CTRL = 18

abbrev pub LQSPI_CLK_CTRL : ℕ
LQSPI_CLK_CTRL = 19

abbrev pub SDIO_CLK_CTRL : ℕ
SDIO_CLK_CTRL = 20

abbrev pub UART_CLK_CTRL : ℕ
UART_CLK_CTRL = 21

abbrev pub SPI_CLK_CTRL : ℕ
SPI_CLK_CTRL = 22

abbrev pub CAN_CLK_CTRL : ℕ
CAN_CLK_CTRL = 23

-- the trace clock's word
abbrev pub DBG_CLK_CTRL : ℕ
DBG_CLK_CTRL = 25

abbrev pub PCAP_CLK_CTRL : ℕ
PCAP_CLK_CTRL = 26

abbrev pub FPGA_0_CLK_CTRL : ℕ
FPGA_0_CLK_CTRL = 28

abbrev pub FPGA_1_CLK_CTRL : ℕ
FPGA_1_CLK_CTRL = 32

abbrev pub FPGA_2_CLK_CTRL : ℕ
FPGA_2_CLK_CTRL = 36

abbrev pub FPGA_3_CLK_CTRL : ℕ
FPGA_3_CLK_CTRL = 40

abbrev pub CLK_RATIO_SELECT : ℕ
CLK_RATIO_SELECT = 49

-- what an image holds in a word
abbrev pub word : List ℕ → ℕ → ℕ
word image i = get_or image i 0
