-- A greatest common divisor of 0 means that both numbers are 0; by any other both are divided.
use native.Mathlib.Omega.{arith}
use Rattle.gcd.proofs.Laws.{no_divisor, some_divisor}
use Rattle.ratio_table.specs.Lowest.{no_terms, to_lowest}
use Rattle.ratio_table.proofs.Lowest.{reduced}
use Rattle.ratio_table.proofs.Ratio.reduced.Goals as goal

pub returns-then-common-eq0 : goal.returns-then-common-eq0
returns-then-common-eq0 c = no_terms (no_divisor c.gcd-common.ensures c.if-common-eq0.true)

pub returns : goal.returns
returns c = to_lowest (some_divisor c.gcd-common.ensures (omega arith)) (reduced c.gcd-common.ensures (omega arith))
