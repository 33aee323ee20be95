-- `desk::run`: what is held stays within the input.
use Prim.Native.Nat.{◌≤◌}
use Rattle.desk.proofs.run.Given as goal

abbrev pub invariant-loop : goal.invariant-loop
invariant-loop l = l.held.0 ≤ 65_536
