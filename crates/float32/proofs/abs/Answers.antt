-- `float32::abs` meets its contract.
use Rattle.std.proofs.Common.{sym, ◌∙◌}
use Rattle.float32.proofs.Tests.{holds, fails}
use Rattle.float32.proofs.Sign.{none, abs_of, abs_pattern}
use Rattle.float32.proofs.abs.Goals as goal

pub float_from_bits-result : goal.float_from_bits-result
float_from_bits-result c = abs_pattern _ (fails (sym c.is_nan.ensures.value ∙ c.if-is_nan.false)) (holds c.well_formed.0.1)

pub returns-then-is_nan : goal.returns-then-is_nan
returns-then-is_nan c = none _ (sym c.is_nan.ensures.value ∙ c.if-is_nan.true)

pub returns-else-is_nan : goal.returns-else-is_nan
returns-else-is_nan c = abs_of _ (fails (sym c.is_nan.ensures.value ∙ c.if-is_nan.false)) (holds c.well_formed.0.1)
