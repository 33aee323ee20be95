-- `shapes::read_words` meets its contract: `ReadTo` is what is known after some words.
use mathlib.Core.Path.{ap, ◌∙◌}
use lib.ListN.{length-append}
use Rattle.std.proofs.Common.{rules, tests, of_calls}
use Rattle.std.proofs.lemmas.Result.{err_from_is_err_and}
use Rattle.words.proofs.Splitting.{words_yielded}
use Rattle.shapes.proofs.Reading.{begin, at_turn, at_last, turn_bad, turn_good, ended}
use Rattle.shapes.proofs.read_words.Goals as goal

pub loop-word-init : goal.loop-word-init
loop-word-init c = record { can_next = search of_calls; is_finite = tt; read = begin _ _ _ c.requires }

pub returns-in_err-left : goal.returns-in_err-left
returns-in_err-left c =
    let t = at_turn c.loop-word.yielded _ c.loop-word.yielded_by (words_yielded _ c.args.line.now (ap (λ s. s.rest.now) c.into_iter-word-iterator.ensures.into_iter_gives ∙ c.split-word-items.ensures.rest) (ap (λ s. s.done) c.into_iter-word-iterator.ensures.into_iter_gives ∙ c.split-word-items.ensures.done) (ap (λ s. s.pred) c.into_iter-word-iterator.ensures.into_iter_gives ∙ c.split-word-items.ensures.closure) (λ x r q k. search (rules, tests))) c.next.result c.next.new.self c.in-Some.word c.in-Some.is c.next.ensures.steps in
    let p = err_from_is_err_and c.from_residual.result c.from_residual.ensures.1 in
    rw (p.1, p.2) (turn_bad c.loop-word.invariant.read _ t.0 t.1 _ _ c.in_err-left.ensures)

pub loop-word-preserved : goal.loop-word-preserved
loop-word-preserved c =
    let t = at_turn c.loop-word.yielded _ c.loop-word.yielded_by (words_yielded _ c.args.line.now (ap (λ s. s.rest.now) c.into_iter-word-iterator.ensures.into_iter_gives ∙ c.split-word-items.ensures.rest) (ap (λ s. s.done) c.into_iter-word-iterator.ensures.into_iter_gives ∙ c.split-word-items.ensures.done) (ap (λ s. s.pred) c.into_iter-word-iterator.ensures.into_iter_gives ∙ c.split-word-items.ensures.closure) (λ x r q k. search (rules, tests))) c.next.result c.next.new.self c.in-Some.word c.in-Some.is c.next.ensures.steps in
    let w = c.in_ok-left.ensures in
    record {
      can_next = search rules;
      is_finite = tt;
      read = turn_good c.loop-word.invariant.read _ t.0 t.1 w.0 _ _ _ (length-append c.loop-word.yielded _) w.1 w.2 w.3;
    }

pub returns : goal.returns
returns c =
    ended c.loop-word.invariant.read (at_last c.loop-word.yielded _ c.loop-word.yielded_by (words_yielded _ c.args.line.now (ap (λ s. s.rest.now) c.into_iter-word-iterator.ensures.into_iter_gives ∙ c.split-word-items.ensures.rest) (ap (λ s. s.done) c.into_iter-word-iterator.ensures.into_iter_gives ∙ c.split-word-items.ensures.done) (ap (λ s. s.pred) c.into_iter-word-iterator.ensures.into_iter_gives ∙ c.split-word-items.ensures.closure) (λ x r q k. search (rules, tests))) c.next.result c.next.new.self c.in-None.is c.next.ensures.steps)
