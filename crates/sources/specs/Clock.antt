-- A clock is a PLL and the product of its divisors; its frequency is the PLL's output over that product, rounded down.
use Rattle.std.specs.Prelude.{ℕ, ◌*◌, ◌/◌, Option, Some, None}
use Rattle.fields.specs.Word.{read_field}
use Rattle.registers.specs.declared.PllType.{PllType}
use Rattle.registers.specs.Fields.{DIVISOR, DIVISOR_1}
use Rattle.sources.specs.declared.PllOutputs.{PllOutputs}
use Rattle.sources.specs.Source.{output_of, io_source, trace_source}

pub record Clock : Type 0 where
  pub source : PllType
  pub product : ℕ

-- the clock of a word with one divisor
abbrev pub single : ℕ → Clock
single word = record { source = io_source word; product = read_field word DIVISOR }

-- the clock of a word with two: CAN, GEM, FPGA
abbrev pub dual : ℕ → Clock
dual word = record { source = io_source word; product = read_field word DIVISOR * read_field word DIVISOR_1 }

-- floor division, which by a product of 0 gives 0: evaluation and GEM refuse a divisor of 0, so that no such clock is ever told
abbrev pub frequency : PllOutputs → Clock → ℕ
frequency out clock = output_of out clock.source / clock.product

-- the trace word's clock where it comes from a PLL
abbrev pub traced : PllType → ℕ → Clock
traced pll word = record { source = pll; product = read_field word DIVISOR }

-- the trace clock by its source: under EMIO there is none
abbrev pub trace_from : PllOutputs → ℕ → Option PllType → Option ℕ
trace_from out word (Some pll) = Some (frequency out (traced pll word))
trace_from out word None = None

abbrev pub trace_clk : PllOutputs → ℕ → Option ℕ
trace_clk out word = trace_from out word (trace_source word)
