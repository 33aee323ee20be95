-- The answer at the largest numbers of all, which no machine would find by trying every pair.
-- Assumes nothing.
use mathlib.Core.Path.{refl}
use lib.Dec.{lit<, lit≤}
use Rattle.refusals.specs.Told.{answered}
use Rattle.two_stage.specs.Answer.{Right, best}
use Rattle.nearness.specs.declared.Wanted.{Wanted}
use Rattle.nearness.proofs.Row.{greatest}
use Rattle.two_stage.proofs.Row.{best_pair}
use Rattle.nearness.proofs.Search.{start, exact}

-- the input at which the Rust's sum of the ideal divisor and 1 overflows
pub at_the_top : Right 4_294_967_295 1 4_294_967_295 (answered (record { div0 = 1; div1 = 4_294_967_295 }))
at_the_top = best _ (lit< tt) (lit< tt) (best_pair (exact (start (lit< tt) refl (greatest wanted (lit< tt) (lit≤ tt))) refl))
  where
    wanted : Wanted
    wanted = record {
      reference = 4_294_967_295;
      target = 1;
      firsts = 4_294_967_295;
      seconds = 4_294_967_295;
      ratio = 4_294_967_295;
      some_target = lit< tt;
      some_firsts = lit< tt;
      some_seconds = lit< tt;
      is_ratio = refl;
    }
