-- `desk::drain` keeps within the input.
use Prim.Native.Nat.{◌≤◌}
use lib.ListN.{length}
use Rattle.desk.proofs.drain.Given as goal

abbrev pub invariant-loop : goal.invariant-loop
invariant-loop l = l.place.used ≤ length l.input
