-- The accesses are at most six more than the words, so that rows that hold so many have room for them. Assumes nothing.
use Prim.Native.Nat.{ℕ, ◌≤◌}
use mathlib.Core.Path.{◌≡◌}
use mathlib.Core.List.{List}
use native.Mathlib.Omega.{arith}
use lib.ListN.{length}
use Rattle.refusals.specs.Told.{answered}
use Rattle.pll_rows.specs.declared.PllPlan.{PllPlan}
use Rattle.pll_rows.specs.Sequence.{Ending, ends, accesses_of}
use Rattle.pll_rows.proofs.Written.{at_most_written}
use Rattle.pll_seq.specs.Record.{Rows, rows, Room, most, Recorded, recorded}
use Rattle.pll_seq.specs.Moves.{Moves, Enough, to_come, whole}
use Rattle.pll_seq.proofs.Moved.{counted, ended, in_rows}

module _ (plan : PllPlan) (limit : ℕ) (words : List ℕ) where
  pub few : length (accesses_of plan limit words).accesses ≤ most words
  few = omega (arith, at_most_written plan 0 limit 0 words)

  pub surely : {r : Rows} → Room (most words) r → Enough (whole plan limit words) 0 r
  unfolding to_come
  surely h = record { kinds = omega (arith, few); numbers = omega (arith, few); values = omega (arith, few) }

  -- all of them stand in the rows
  pub answers : {before now : Rows} {e : Ending} {m : ℕ} → Room (most words) before → Moves (whole plan limit words) 0 before (ends e) m now →
      Recorded plan limit words before now (answered (record { end = e; accesses = m }))
  unfolding to_come
  answers room moves = rw (counted moves, ended moves, in_rows moves (surely room)) (recorded room)

  -- the same of rows each by itself, as they are when the recorder is let go
  pub answers_in : {before now : Rows} {e : Ending} {m : ℕ} → Room (most words) before → Moves (whole plan limit words) 0 before (ends e) m now →
      {kinds numbers values : List ℕ} → kinds ≡ now.kinds → numbers ≡ now.numbers → values ≡ now.values →
      Recorded plan limit words before (rows kinds numbers values) (answered (record { end = e; accesses = m }))
  answers_in room moves k n v = rw (k, n, v) (answers room moves)
