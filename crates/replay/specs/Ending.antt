-- What is said at the end of the input, and where a read fails.
use Rattle.std.specs.Prelude.{ℕ, ◌+◌, ◌*◌, cond, eqb, Result, Ok, Err}
use Rattle.trace.specs.declared.Trace.{Trace}
use Rattle.replay.specs.declared.report.Fault.{Fault}

-- how many bytes were read, where so many are held
abbrev pub so_far : Trace → ℕ → ℕ
so_far s count = s.samples * 4 + count

-- the end of the input is the end of a trace where nothing is held
abbrev pub at_end : Trace → ℕ → Result Trace Fault
at_end s count = cond (eqb count 0) (Ok s) (Err (Fault.Unfinished (so_far s count)))
