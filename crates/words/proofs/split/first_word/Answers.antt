-- `words::split::first_word` meets its contract.
use Rattle.words.proofs.Splitting.{first_cut, first_whole}
use Rattle.words.proofs.split.first_word.Goals as goal

pub returns-in-Some : goal.returns-in-Some
returns-in-Some c = first_cut _ _ c.in-Some.ensures

pub returns-in-None : goal.returns-in-None
returns-in-None c = first_whole _ c.in-None.ensures
