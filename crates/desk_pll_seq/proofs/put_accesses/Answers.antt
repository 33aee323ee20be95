-- `desk_pll_seq::put_accesses` meets its contract: `Logged` is what stands there after some accesses.
use mathlib.Core.Path.{◌≡◌, refl}
use borrow.Author.Rules.{rules}
use Rattle.desk_pll_seq.specs.Printed.{listed}
use Rattle.desk_pll_seq.proofs.Writing.{none, room_for_one, one_more, all_said, same_access}
use Rattle.desk_pll_seq.proofs.Zipped.{left, one_record, no_record}
use Rattle.desk_pll_seq.proofs.put_accesses.Goals as goal

pub loop-kind-init : goal.loop-kind-init
loop-kind-init c =
    let a = c.args in
    let all : left c.into_iter-kind-iterator.result ≡ listed a.kinds.now a.numbers.now a.values.now = search rules in
    rw all (none c.requires)

pub put_access-requires : goal.put_access-requires
put_access-requires c =
    room_for_one c.loop-kind.invariant (one_record c.loop-kind.kind-iterator c.next.new.self _ _ c.in-Some.is c.next.ensures.steps)

pub loop-kind-preserved : goal.loop-kind-preserved
loop-kind-preserved c =
    let i = c.in-Some in
    let l = c.loop-kind in
    one_more l.invariant (one_record l.kind-iterator c.next.new.self _ _ i.is c.next.ensures.steps)
    (rw (← (same_access i.kind.now i.number.now i.value.now), ← c.from.ensures) c.put_access.ensures.1)

pub returns : goal.returns
returns c =
    (refl, all_said c.loop-kind.invariant (no_record c.loop-kind.kind-iterator c.next.new.self _ c.in-None.is c.next.ensures.steps))
