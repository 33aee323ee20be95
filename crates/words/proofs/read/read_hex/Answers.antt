-- `words::read::read_hex` meets its contract.
use mathlib.Core.Path.{ap, ◌∙◌}
use native.Mathlib.Omega.{arith}
use Rattle.std.proofs.Common.{rules, tests}
use Rattle.words.proofs.Reading.{eight, no_hex, eight_digits, not_eight, mapped}
use Rattle.words.proofs.read.read_hex.Goals as goal

pub returns-in-0 : goal.returns-in-0
returns-in-0 c = no_hex _ c.in-0.is

pub returns-in-8 : goal.returns-in-8
returns-in-8 c = mapped _ _ (search (rules, tests)) ∙ ap eight c.number.ensures ∙ eight_digits _ c.in-8.is

pub returns-in_default : goal.returns-in_default
returns-in_default c = let h = c.in_default in not_eight _ (λ e. omega arith) (λ e. omega arith)
