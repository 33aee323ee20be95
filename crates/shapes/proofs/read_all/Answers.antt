-- `shapes::read_all` meets its contract.
use mathlib.Core.Path.{ap}
use Rattle.words.specs.Words.{further}
use Rattle.shapes.proofs.Reading.{no_words}
use Rattle.shapes.proofs.read_all.Goals as goal

pub returns-in_default : goal.returns-in_default
returns-in_default c = no_words _ _ _ _ (ap further c.in_default.is) c.clear.ensures c.at_end.ensures
