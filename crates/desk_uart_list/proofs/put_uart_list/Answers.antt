-- `desk_uart_list::put_uart_list` meets its contract.
use mathlib.Core.Path.{ap}
use native.Mathlib.Omega.{arith}
use Rattle.bounds.proofs.Bound.{kept}
use Rattle.text.proofs.Writing.{never_full}
use Rattle.uart_candidate.specs.declared.Wanted.{Wanted}
use Rattle.desk_uart_list.proofs.Listing.{counted, room_for_all, count_and_list}
use Rattle.desk_uart_list.proofs.put_uart_list.Goals as goal

pub returns-in_err-put_decimal : goal.returns-in_err-put_decimal
returns-in_err-put_decimal c = never_full c.put_decimal.result (counted c.viable_count-count.ensures (omega arith) c.put_decimal.result c.put_decimal.ensures) c.in_err-put_decimal.was

pub put_pairs-requires : goal.put_pairs-requires
put_pairs-requires c = room_for_all c.viable_count-count.ensures (omega arith) c.put_decimal.result c.put_decimal.ensures

pub returns : goal.returns
returns c =
    kept (omega arith) (c.put_pairs.ensures.0, count_and_list c.viable_count-count.ensures (omega arith) c.put_decimal.result c.put_decimal.ensures (ap (λ (w : Wanted). w.reference) c.new-wanted.ensures) (ap (λ (w : Wanted). w.target) c.new-wanted.ensures) c.put_pairs.ensures.1)
