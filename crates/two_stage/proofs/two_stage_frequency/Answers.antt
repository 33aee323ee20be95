-- `two_stage::two_stage_frequency` meets its contract: dividing twice is dividing by the product.
-- Assumes nothing.
use native.Mathlib.Nat.{div-div-eq-div-mul}
use Rattle.two_stage.proofs.two_stage_frequency.Goals as goal

pub returns : goal.returns
returns c = div-div-eq-div-mul _ _ _
