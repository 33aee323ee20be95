-- Of the candidate that a bdiv has, the error decides.
use Rattle.std.proofs.Common.{rules}
use Rattle.uart_candidate.proofs.Pairs.{filtered}
use Rattle.uart_candidate.proofs.Wanted.viable.Goals as goal

pub returns : goal.returns
returns c = filtered _ (λ p b t. search rules) c.filter.ensures c.candidate.ensures
