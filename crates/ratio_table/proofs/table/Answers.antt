-- The six that are compared make the table.
use Rattle.ratio_table.specs.Table.{mirrored}
use Rattle.ratio_table.proofs.table.Goals as goal

pub returns : goal.returns
returns c = rw c.table.ensures (mirrored c.compared.ensures)
