-- `shapes::read_words` meets its contract: `ReadTo` is what is known after some words.
use lib.ListN.{length}
use Rattle.words.specs.Words.{words}
use Rattle.shapes.proofs.Reading.{ReadTo}
use Rattle.shapes.proofs.read_words.Given as goal

abbrev pub invariant-loop-word : goal.invariant-loop-word
invariant-loop-word l = record {
  can_next : (goal.iterator-loop-word).can_next l.word-iterator;
  is_finite : (goal.iterator-loop-word).is_finite l.word-iterator;
  read : ReadTo l.shape (words l.line) (length l.yielded) l.numbers.items l.left;
}
