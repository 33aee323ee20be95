-- `words::read::number` meets its contract: `NumberTo` is what is known after i digits.
use Rattle.words.proofs.Reading.{NumberTo}
use Rattle.words.proofs.read.number.Given as goal

abbrev pub invariant-loop-byte : goal.invariant-loop-byte
invariant-loop-byte l = NumberTo l.radix l.word l.byte-index l.value
