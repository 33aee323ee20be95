-- An update changes its own clock alone, and only one record is the updated one. Assumes nothing.
use mathlib.Core.Path.{◌≡◌, ◌∙◌, sym, ap, ap₂}
use mathlib.Core.List.{List}
use Prim.Native.Nat.{ℕ, ◌<◌}
use lib.ListN.{get_or}
use lib.Seq.{get_or-set_same, get_or-set_other}
use Rattle.io_clocks.specs.declared.IoClocks.{IoClocks}
use Rattle.std.proofs.Common.{Option}
use Rattle.io_clocks.specs.Update.{Updated, frequencies}

module _ {place hertz : ℕ} {before after : IoClocks} (u : Updated place hertz before after) where
  pub own_clock : place < 8 → get_or (frequencies after) place 0 ≡ hertz
  own_clock h = ap (λ (l : List ℕ). get_or l place 0) u.own ∙ get_or-set_same (frequencies before) place hertz 0 h

  pub other_clocks : (k : ℕ) → (k ≡ place → ⊥) → get_or (frequencies after) k 0 ≡ get_or (frequencies before) k 0
  other_clocks k n = ap (λ (l : List ℕ). get_or l k 0) u.own ∙ get_or-set_other (frequencies before) place k hertz 0 n

-- a record is its frequencies in a row and its trace clock
from_row : List ℕ → Option ℕ → IoClocks
from_row l trace =
    record {
      ref_clk = get_or l 0 0;
      smc_clk = get_or l 1 0;
      qspi_clk = get_or l 2 0;
      sdio_clk = get_or l 3 0;
      uart_clk = get_or l 4 0;
      spi_clk = get_or l 5 0;
      can_clk = get_or l 6 0;
      pcap_2x_clk = get_or l 7 0;
      trace_clk = trace;
    }

pub unique : {place hertz : ℕ} {before a b : IoClocks} → Updated place hertz before a → Updated place hertz before b → a ≡ b
unfolding from_row
unique u v = ap₂ from_row (u.own ∙ sym v.own) (u.trace ∙ sym v.trace)
