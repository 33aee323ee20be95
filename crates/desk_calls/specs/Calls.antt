-- What the desk can be asked, call by call: the numbers of a line go in, and what comes out is what the call tells. The rows of the desk's table
-- (crate desk_requests) cite these.
use Rattle.std.specs.Prelude.{ℕ, ◌+◌, ◌%◌, ◌^◌, ◌<◌, ◌≡◌, Bool, not, List, [], ◌∷◌, eqb, get_or, drop}
use Rattle.refusals.specs.Told.{Told, answered, refused}
use Rattle.registers.specs.Words.{word, GEM_0_CLK_CTRL}
use Rattle.handing.specs.Handed.{Answers}
use Rattle.two_stage.specs.Best.{frequency}
use Rattle.i2c.specs.Divisors.{clock}
use Rattle.clocks.specs.declared.Clocks.{Clocks}
use Rattle.evaluation.specs.Evaluated.{evaluated}
use Rattle.desk_calls.specs.declared.Call.{Call}
use Rattle.desk_calls.specs.declared.Call.TheVariants.{TwoStage, TwoStageFrequency, I2c, I2cSpeed, Ttc, PllTarget, PllMul, Uart, CpuInit, DdrInit, Gem, Ratios}
use Rattle.desk_calls.specs.declared.Call.TheVariants.{Clocks as ClocksCall}
use Rattle.c_two_stage.specs.Tells.{TwoStageTells}
use Rattle.c_i2c.specs.Tells.{I2cTells}
use Rattle.c_ttc.specs.Tells.{TtcTells}
use Rattle.c_pll_settings.specs.Tells.{PllMulTells, PllTargetTells}
use Rattle.c_uart.specs.Tells.{UartTells}
use Rattle.c_clocks.specs.Tells.{ClocksTells, clock_words}
use Rattle.c_gem.specs.Tells.{GemTells}
use Rattle.c_ratios.specs.Tells.{RatiosTells}
use Rattle.c_clock_setup.specs.Tells.{CpuInitTells, DdrInitTells}

-- room for the words of every answer: those of the ratios
abbrev pub MOST_WORDS : ℕ
MOST_WORDS = 32

-- what a call tells of the numbers of a line
abbrev pub Telling : Type 1
Telling = List ℕ → Told (List ℕ) → Type 0

-- a number, and one that says yes or no
abbrev pub nth : List ℕ → ℕ → ℕ
nth n i = get_or n i 0

abbrev pub is_set : ℕ → Bool
is_set n = not (eqb n 0)

-- a GEM clock of an image: evaluation's refusals come first, and then GEM's own
pub data GemOfImage (second : Bool) (word crystal : ℕ) (image : List ℕ) : Told (List ℕ) → Type 0 where
  not_evaluated : {number : ℕ} {carried : List ℕ} → evaluated crystal image ≡ refused number carried → GemOfImage second word crystal image (refused number carried)
  of_record : {clocks : Clocks} {t : Told (List ℕ)} → evaluated crystal image ≡ answered clocks → GemTells second word (clock_words clocks) t → GemOfImage second word crystal image t

-- each of these words has 32 bits
abbrev pub Low : List ℕ → Type 0
Low words = (k : ℕ) → nth words k < 2 ^ 32

-- REF TARGET MAX, and so on: the words of a request as its row has them
abbrev pub two_stage : Telling
two_stage n = TwoStageTells (nth n 0) (nth n 1) (nth n 2)

abbrev pub two_stage_frequency : Telling
two_stage_frequency n = Answers (frequency (nth n 0) (nth n 1) (nth n 2))

abbrev pub i2c : Telling
i2c n = I2cTells (nth n 0) (is_set (nth n 1))

abbrev pub i2c_speed : Telling
i2c_speed n = Answers (clock (nth n 0) (nth n 1 % 256 + 1) (nth n 2 % 256 + 1))

abbrev pub ttc : Telling
ttc n = TtcTells (nth n 0) (nth n 1)

abbrev pub pll_target : Telling
pll_target n = PllTargetTells (nth n 0) (nth n 1)

abbrev pub pll_mul : Telling
pll_mul n = PllMulTells (nth n 0)

abbrev pub uart : Telling
uart n = UartTells (nth n 0) (nth n 1)

abbrev pub cpu_init : Telling
cpu_init n = CpuInitTells (nth n 0) (is_set (nth n 1)) (nth n 2)

abbrev pub ddr_init : Telling
ddr_init n = DdrInitTells (nth n 0) (nth n 1) (nth n 2)

abbrev pub clocks : Telling
clocks n = ClocksTells (nth n 0) (drop 1 n)

abbrev pub gem : Telling
gem n = GemOfImage (is_set (nth n 0)) (word (drop 2 n) (nth n 0 + GEM_0_CLK_CTRL)) (nth n 1) (drop 2 n)

abbrev pub ratios : Telling
ratios n = RatiosTells (nth n 0) (drop 1 n)

abbrev pub tells : Call → Telling
tells TwoStage = two_stage
tells TwoStageFrequency = two_stage_frequency
tells I2c = i2c
tells I2cSpeed = i2c_speed
tells Ttc = ttc
tells PllTarget = pll_target
tells PllMul = pll_mul
tells Uart = uart
tells CpuInit = cpu_init
tells DdrInit = ddr_init
tells ClocksCall = clocks
tells Gem = gem
tells Ratios = ratios

-- what is told where there is nothing to call: no words
pub data Nothing : Told (List ℕ) → Type 0 where
  nothing_said : Nothing (answered [])

abbrev pub nothing : Telling
nothing n = Nothing
