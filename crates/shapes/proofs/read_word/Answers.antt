-- `shapes::read_word` meets its contract.
use mathlib.Core.Path.{refl, sym, ap, ◌∙◌}
use Prim.Native.Nat.{◌<◌, ◌≤◌}
use native.Mathlib.Omega.{arith}
use lib.ListN.{length}
use Rattle.std.proofs.Common.{rules, tests}
use Rattle.std.proofs.lemmas.Result.{err_from_is_err_and}
use Rattle.shapes.specs.Field.{field_of}
use Rattle.shapes.specs.Shape.{MOST}
use Rattle.shapes.specs.declared.kind.Kind.{Kind}
use Rattle.shapes.proofs.Reading.{past_shape, no_room, bad_word, same_kind, next_kind}
use Rattle.shapes.proofs.read_word.Goals as goal

pub returns-in_default : goal.returns-in_default
returns-in_default c = (refl, λ k words. past_shape _ _ k _ words c.in_default.ensures.cases)

pub returns-then-is_full : goal.returns-then-is_full
returns-then-is_full c = (refl, λ k words. no_room _ _ k _ words (let h : MOST ≤ length c.args.numbers.now.items = search (rules, tests) in omega arith))

pub returns-in_err-field : goal.returns-in_err-field
returns-in_err-field c = let p = err_from_is_err_and c.from_residual.result c.from_residual.ensures.1 in
    let h : length c.args.numbers.now.items < MOST = search (rules, tests) in
    rw (p.1, p.2) (refl, λ k words. bad_word c.in-Some.ensures.cases.0 _ _ k words h _ (ap (λ (kind : Kind). field_of kind c.args.word.now) (sym c.from-kind.ensures) ∙ sym c.field.ensures ∙ c.in_err-field.was))

pub returns-in-Register : goal.returns-in-Register
returns-in-Register c =
    let h : length c.args.numbers.now.items < MOST = search (rules, tests) in
    (c.in_ok-field.field-0, c.push.ensures.items, c.push.ensures.len, λ k words. same_kind c.in-Some.ensures.cases.0 _ _ k words h _ _ (ap (λ (kind : Kind). field_of kind c.args.word.now) (sym c.from-kind.ensures) ∙ sym c.field.ensures ∙ c.in_ok-field.was) c.push.ensures.len (sym c.from-kind.ensures ∙ c.in-Register.is))

pub returns-in_default-kind : goal.returns-in_default-kind
returns-in_default-kind c =
    let h : length c.args.numbers.now.items < MOST = search (rules, tests) in
    (c.in_ok-field.field-0, c.push.ensures.items, c.push.ensures.len, λ k words. next_kind c.in-Some.ensures.cases.0 _ _ k words h _ _ (ap (λ (kind : Kind). field_of kind c.args.word.now) (sym c.from-kind.ensures) ∙ sym c.field.ensures ∙ c.in_ok-field.was) c.push.ensures.len (λ e. c.in_default-kind.not-Register (c.from-kind.ensures ∙ e)))
