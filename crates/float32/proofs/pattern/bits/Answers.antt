-- What is no number has the one pattern.
use Rattle.std.proofs.Common.{sym, ◌∙◌}
use Rattle.float32.proofs.Sign.{one_pattern}
use Rattle.float32.proofs.pattern.bits.Goals as goal

pub returns-then-is_nan : goal.returns-then-is_nan
returns-then-is_nan c = one_pattern _ (sym c.is_nan.ensures.value ∙ c.if-is_nan.true)
