-- `desk_faults::put_fault` meets its contract.
use native.Mathlib.Omega.{arith}
use Rattle.bounds.proofs.Bound.{kept}
use Rattle.desk_faults.proofs.Complaining.{complained}
use Rattle.desk_faults.proofs.put_fault.Goals as goal

pub returns : goal.returns
returns c = kept (omega arith) (complained _ _ c.put_form.result c.put_form-2.result (omega arith) c.text.ensures c.put_form.ensures c.put_form-2.ensures)
