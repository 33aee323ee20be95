-- Where the count is within what is lent, there is room.
use native.Mathlib.Omega.{arith}
use Rattle.uart_list.proofs.Laws.{fits}
use Rattle.uart_list.proofs.room.Goals as goal

pub returns : goal.returns
returns c = fits _ _ (omega arith) c.viable_count-needed.ensures
