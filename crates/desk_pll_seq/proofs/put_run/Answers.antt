-- `desk_pll_seq::put_run` meets its contract.
use native.Mathlib.Omega.{arith}
use lib.ListN.{take, length-take}
use Rattle.forms.proofs.Saying.{within, both}
use Rattle.desk_pll_seq.proofs.Writing.{at_most_first}
use Rattle.desk_pll_seq.proofs.put_run.Goals as goal

pub put_accesses-requires : goal.put_accesses-requires
put_accesses-requires c =
    let a = c.args in
    let n = a.ran.accesses in
    omega (arith, at_most_first (take n a.kinds.now) (take n a.numbers.now) (take n a.values.now), length-take n a.kinds.now)

pub put_end-requires : goal.put_end-requires
put_end-requires c =
    let a = c.args in
    let n = a.ran.accesses in
    omega (arith, at_most_first (take n a.kinds.now) (take n a.numbers.now) (take n a.values.now), length-take n a.kinds.now, c.put_accesses.ensures.1.within, c.put_accesses.ensures.1.wrote.inside)

pub returns : goal.returns
returns c =
    let a = c.args in
    let n = a.ran.accesses in
    let few = at_most_first (take n a.kinds.now) (take n a.numbers.now) (take n a.values.now) in
    (c.put_end.ensures.0, within _ (omega (arith, few, length-take n a.kinds.now)) (both c.put_accesses.ensures.1 c.put_end.ensures.1))
