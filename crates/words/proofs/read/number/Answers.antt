-- `words::read::number` meets its contract: `NumberTo` is what is known after i digits.
use Rattle.std.proofs.Common.{rules, tests}
use Rattle.words.proofs.Reading.{no_number, number_none}
use Rattle.words.proofs.read.number.Goals as goal

pub returns-then-is_empty : goal.returns-then-is_empty
returns-then-is_empty c = no_number _ _ (search (rules, tests))

pub loop-byte-init : goal.loop-byte-init
loop-byte-init c = number_none _ _ (search (rules, tests))
