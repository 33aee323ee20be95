-- The rows of the table that are calls, by their places.
use Prim.Native.Nat.{ℕ, suc}
use mathlib.Core.Path.{◌≡◌}
use lib.ListN.{get_or, get_or-map}
use Rattle.desk_requests.specs.Row.{CallRow, request}
use Rattle.desk_requests.specs.Table.{row, called, no_call}

abbrev pub call_row : ℕ → CallRow
call_row k = get_or called k no_call

pub same_row : (k : ℕ) → row (suc (suc (suc k))) ≡ request (call_row k)
unfolding row
same_row k = get_or-map request called k no_call
