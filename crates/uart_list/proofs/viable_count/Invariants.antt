-- What has been counted is how many viable pairs are below bdiv.
use Prim.Native.Nat.{◌≤◌}
use Rattle.uart_list.proofs.Laws.{Tally}
use Rattle.uart_list.proofs.viable_count.Given as goal

abbrev pub invariant-loop-bdiv : goal.invariant-loop-bdiv
invariant-loop-bdiv l = record { few : l.count ≤ l.bdiv; tally : Tally l.wanted.reference l.wanted.target l.count l.bdiv }
