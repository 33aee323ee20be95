-- The desk's table: everything that can be asked. Shapes are those of crate shapes (n a number, b one of 8 bits, h of 16, f 0 or 1, s a speed,
-- p a PLL, w register words to the line's end), forms those of crate forms (# a number, $ eight hex digits, ? none or a number, ~ a clock or emio).
use Rattle.std.specs.Prelude.{ℕ, ◌≡◌, List, [], ◌∷◌, ◌++◌, map, get_or}
use Rattle.text.specs.Bytes.{bytes}
use Rattle.desk_calls.specs.Calls.{nth, nothing, two_stage, two_stage_frequency, i2c, i2c_speed, ttc, pll_target, pll_mul, uart, cpu_init, ddr_init, clocks, gem, ratios}
use Rattle.desk_uart_list.specs.List.{Listed}
use Rattle.desk_pll_seq.specs.Request.{plan_of, host_words, run_text}
use Rattle.desk_requests.specs.Row.{Request, CallRow, call, request}

-- the requests that are calls
abbrev pub called : List CallRow
called =
    call "two-stage" "nnn" "#_#" two_stage "two-stage REF TARGET MAX gives D0 D1"
    ∷ call "two-stage-frequency" "nnn" "#" two_stage_frequency "two-stage-frequency REF D0 D1 gives HZ"
    ∷ call "i2c" "ns" "#_#" i2c "i2c REF normal|fast gives A B"
    ∷ call "i2c-speed" "nbb" "#" i2c_speed "i2c-speed REF A B gives HZ"
    ∷ call "ttc" "nn" "?_#" ttc "ttc REF FREQ gives none|PRESCALER TICKS"
    ∷ call "pll-target" "nn" "#_#_#_#" pll_target "pll-target CRYSTAL TARGET gives FDIV CP RES LOCK"
    ∷ call "pll-mul" "n" "#_#_#_#" pll_mul "pll-mul MUL gives FDIV CP RES LOCK"
    ∷ call "uart" "nn" "#_#_$" uart "uart REF BAUD gives CD BDIV ERROR"
    ∷ call "cpu-init" "nfn" "#_#_#_#" cpu_init "cpu-init PLL RATIO DIV gives 1X 2X 3X2X 6X4X"
    ∷ call "ddr-init" "nnn" "#_#" ddr_init "ddr-init REF DIV3X DIV2X gives 3X 2X"
    ∷ call "clocks" "nw" "ok_#_#_#_#_#_#_#_#_#_#_#_#_#_#_#_#_#_#_#_#_~_#_#_#_#" clocks
    "clocks CRYSTAL W0 .. W49 gives ok and ARM_PLL IO_PLL DDR_PLL CPU_REF RATIO 1X 2X 3X2X 6X4X DDR_REF DDR3X DDR2X IO_REF SMC QSPI SDIO UART SPI CAN PCAP TRACE|emio FPGA0 FPGA1 FPGA2 FPGA3"
    ∷ call "gem" "fnw" "#" gem "gem 0|1 CRYSTAL W0 .. W49 gives HZ"
    ∷ call "ratios" "nw" "#:#_#:#_#:#_#:#_#:#_#:#_#:#_#:#_#:#_#:#_#:#_#:#_#:#_#:#_#:#_#:#" ratios
    "ratios CRYSTAL W0 .. W49 gives N:D of FPGA0 to FPGA0 .. FPGA3, then of FPGA1, FPGA2 and FPGA3"
    ∷ []

-- the others
abbrev pub uart_list : Request
uart_list = record { name = "uart-list"; shape = "nn"; says = λ n. Listed (nth n 0) (nth n 1); help = "uart-list REF BAUD gives the count and CD:BDIV:ERROR for each pair" }

abbrev pub pll_seq : Request
pll_seq = record { name = "pll-seq"; shape = "pfbbbhhw"; says = λ n text. text ≡ run_text (plan_of n) (host_words n); help = "pll-seq arm|ddr|io BYPASSED FDIV CP RES LOCK LIMIT R1 R2 .. gives the accesses and the end" }

-- every line of help, with `; ` between, and help's own behind them
abbrev pub helps : List Request → List ℕ
helps [] = bytes "help gives this line"
helps (r ∷ rows) = bytes r.help ++ bytes "; " ++ helps rows

unfoldable pub help_text : List ℕ
help_text = helps (map request called ++ (uart_list ∷ pll_seq ∷ []))

abbrev pub help : Request
help = record { name = "help"; shape = ""; says = λ n text. text ≡ help_text; help = "help gives this line" }

-- by their places: those that are no calls stand first, so that a call more moves none of them
abbrev pub requests : List Request
requests = uart_list ∷ pll_seq ∷ help ∷ map request called

-- past the table there is nothing to ask
abbrev pub no_call : CallRow
no_call = call "" "" "" nothing ""

unfoldable pub row : ℕ → Request
row place = get_or requests place (request no_call)

-- its columns
unfoldable pub names : List (List ℕ)
names = map (λ (r : Request). bytes r.name) requests

unfoldable pub shapes : List (List ℕ)
shapes = map (λ (r : Request). bytes r.shape) requests
