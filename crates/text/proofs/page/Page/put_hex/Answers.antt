-- `text::Page::put_hex` meets its contract: the digits that the kit made are copied in.
use mathlib.Core.Path.{ap, ◌∙◌}
use native.Mathlib.Omega.{arith}
use Rattle.text.specs.Digits.{hex}
use Rattle.text.proofs.Digits.{hex_spelt}
use Rattle.text.proofs.Writing.{same_text}
use Rattle.text.proofs.page.Page.put_hex.Goals as goal

pub returns : goal.returns
returns c =
    same_text c.put_bytes.result (c.hex-k.ensures.digits ∙ hex_spelt _ _ (omega arith) c.hex-k.ensures.len ∙ ap hex c.from.ensures) c.put_bytes.ensures
