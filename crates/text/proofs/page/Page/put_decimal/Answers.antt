-- `text::Page::put_decimal` meets its contract: the digits that the kit made are copied in.
use mathlib.Core.Path.{◌∙◌}
use native.Mathlib.Omega.{arith}
use Rattle.text.proofs.Digits.{decimal_spelt}
use Rattle.text.proofs.Writing.{same_text}
use Rattle.text.proofs.page.Page.put_decimal.Goals as goal

pub returns : goal.returns
returns c =
    same_text c.put_bytes.result (c.decimal-k.ensures.digits ∙ decimal_spelt _ _ (omega arith) c.decimal-k.ensures.len) c.put_bytes.ensures
