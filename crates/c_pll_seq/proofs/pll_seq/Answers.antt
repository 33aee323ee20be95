-- `c_pll_seq::pll_seq` meets its contract. Assumes nothing.
use Rattle.c_pll_seq.specs.Ran.{hands}
use Rattle.c_pll_seq.proofs.pll_seq.Goals as goal

pub returns : goal.returns
returns c = rw c.from.ensures (hands c.run_of.ensures)
