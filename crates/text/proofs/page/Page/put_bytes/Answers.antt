-- `text::Page::put_bytes` meets its contract: the text is copied in.
use mathlib.Core.Path.{refl}
use Prim.Native.Nat.{◌+◌}
use native.Mathlib.Omega.{arith}
use lib.ListN.{length, length-drop}
use Rattle.text.proofs.Writing.{copied}
use Rattle.text.proofs.page.Page.put_bytes.Goals as goal

pub returns : goal.returns
returns c = record {
  fits = λ _. (refl, copied c.args.self.now.bytes.now c.args.text.now c.copy_from_slice.new.self c.args.self.now.len (c.args.self.now.len + length c.args.text.now) c.copy_from_slice.ensures.after refl (omega (arith, length-drop c.args.self.now.len c.args.self.now.bytes.now)) _ _ refl);
  full = λ f. absurd (omega arith);
}
