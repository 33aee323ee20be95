-- `desk_pll_seq::request::put_pll_seq` meets its contract.
use native.Mathlib.Omega.{arith}
use Rattle.desk_pll_seq.proofs.Telling.{few_words}
use Rattle.desk_pll_seq.proofs.request.put_pll_seq.Goals as goal

pub put_plan-requires : goal.put_plan-requires
put_plan-requires c = (few_words c.args.n.now c.host_words.ensures, omega arith)
