-- `forms::form::put_item` meets its contract, kind by kind.
use mathlib.Core.Path.{sym, ap, ◌∙◌}
use mathlib.Core.List.{List}
use Prim.Native.Nat.{ℕ}
use lib.ListN.{get_or}
use lib.Seq.{get_or-drop}
use native.Mathlib.Omega.{arith}
use Rattle.std.specs.Slice.Iter.{iter_rest}
use Rattle.text.specs.Digits.{decimal, hex}
use Rattle.forms.proofs.Printing.{said_item, option_is, clock_is}
use Rattle.forms.proofs.form.put_item.Goals as goal

pub returns-in-Number-clause-text : goal.returns-in-Number-clause-text
returns-in-Number-clause-text c = let w = c.next.ensures.word in let t = c.next.type_inv in
    said_item _ _ _ c.put_decimal.result (sym c.from.ensures ∙ c.in-Number.is) (omega arith) c.requires c.put_decimal.ensures (ap decimal (sym w ∙ sym c.from-in-Number.ensures))

pub returns-in-Hex-clause-text : goal.returns-in-Hex-clause-text
returns-in-Hex-clause-text c = let w = c.next-in-Hex.ensures.word in let t = c.next-in-Hex.type_inv in
    said_item _ _ _ c.put_hex.result (sym c.from.ensures ∙ c.in-Hex.is) (omega arith) c.requires c.put_hex.ensures (ap hex (sym w))

pub returns-in_default-clause-text : goal.returns-in_default-clause-text
returns-in_default-clause-text c = let w = c.next-in-Option.ensures.word in let t = c.next-in-Option.type_inv in let d = c.in_default in
    said_item _ _ _ c.put_decimal-in_default.result (sym c.from.ensures ∙ c.in-Option.is) (omega arith) c.requires c.put_decimal-in_default.ensures (option_is c.args.byte _ (get_or (iter_rest c.args.words.now) 1 0) w (λ e. omega arith) ∙ ap decimal (sym c.from-in_default.ensures))

pub returns-in-0-next-clause-text : goal.returns-in-0-next-clause-text
returns-in-0-next-clause-text c = let w = c.next-hertz.ensures.word in let t = c.next-hertz.type_inv in
    let flag = c.next-in-Clock.ensures.word ∙ ap (λ (ws : List ℕ). get_or ws 0 0) c.next-hertz.ensures.rest ∙ get_or-drop 1 (iter_rest c.args.words.now) 0 0 in
    said_item _ _ _ c.put_decimal-in-0-next.result (sym c.from.ensures ∙ c.in-Clock.is) (omega arith) c.requires c.put_decimal-in-0-next.ensures (clock_is c.args.byte _ _ w flag c.in-0-next.is ∙ ap decimal (sym c.from-in-0-next.ensures))
