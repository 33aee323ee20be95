-- `trace::Trace::through` meets its contract: `Going` is the loop's invariant.
use Rattle.std.proofs.Common.{[], ◌∷◌, arith, length-append}
use Rattle.std.proofs.lemmas.Slice.Zip.{zip_turn, zip_end}
use Rattle.trace.proofs.Going.{start, more, done, stays}
use Rattle.trace.proofs.Trace.through.Goals as goal

pub loop-x-init : goal.loop-x-init
loop-x-init c = start (omega arith) (omega arith)

-- both halves of the zip begin as the rows do
pub loop-x-preserved : goal.loop-x-preserved
loop-x-preserved c =
    let one = c.iter.ensures.rest in
    let both = c.zip-x-items.ensures in
    let same = c.into_iter-x-iterator.ensures.into_iter_gives in
    let t = zip_turn c.args.first.now c.args.second.now c.loop-x.yielded c.into_iter-x-iterator.result c.loop-x.x-iterator c.next.new.self c.next.result (cc) (cc) c.loop-x.yielded_by (c.in-Some.x, c.in-Some.y) c.in-Some.is c.next.ensures.steps in
    more c.loop-x.invariant c.requires.as_long t.0 (t.2 0) (t.3 0) c.sampled-state.ensures (omega (arith, length-append c.loop-x.yielded ((c.in-Some.x, c.in-Some.y) ∷ [])))

pub returns : goal.returns
returns c =
    let one = c.iter.ensures.rest in
    let both = c.zip-x-items.ensures in
    let same = c.into_iter-x-iterator.ensures.into_iter_gives in
    let n = zip_end c.args.first.now c.args.second.now c.loop-x.yielded c.into_iter-x-iterator.result c.loop-x.x-iterator c.next.new.self c.next.result (cc) (cc) c.loop-x.yielded_by c.in-None.is c.next.ensures.steps in
    done c.requires.as_long (grind arith) c.begun-state.ensures c.loop-x.invariant (omega (arith, c.requires.as_long))

pub returns-then-is_empty : goal.returns-then-is_empty
returns-then-is_empty c = stays _ _ c.requires.as_long (grind arith) (omega arith) (omega arith)
