-- `shapes::at_end` meets its contract.
use mathlib.Core.Path.{sym, ◌∙◌}
use Prim.Native.Nat.{◌+◌}
use native.Mathlib.Omega.{arith}
use Rattle.shapes.proofs.Reading.{no_byte, only_registers, one_missing}
use Rattle.shapes.proofs.at_end.Goals as goal

pub returns-in_default : goal.returns-in_default
returns-in_default c = let h = c.in_default.ensures.item.3 in λ room n. no_byte _ room (n + 2) (omega arith)

pub returns-in-Register : goal.returns-in-Register
returns-in-Register c = let h = c.in-Some.ensures.item in λ room n. only_registers _ room (n + 2) _ h.3.0 h.1 (sym c.from.ensures ∙ c.in-Register.is)

pub returns-in_default-from : goal.returns-in_default-from
returns-in_default-from c = let h = c.in-Some.ensures.item in
    λ room n. one_missing _ room (n + 2) _ h.3.0 h.1 (λ e. c.in_default-from.not-Register (c.from.ensures ∙ e))
