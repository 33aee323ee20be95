-- A whole run over the words that a host would return, recorded in three lent rows: the accesses of document 01's list, one after the
-- other, and every later record as it was. How it ended, a timeout too, is an answer. Rows that could be too short are refused with 9.
use Rattle.std.specs.Prelude.{ℕ, zero, suc, ◌+◌, ◌≤◌, ◌<◌, ◌⊎◌, List, [], ◌∷◌, ◌++◌, map, length, drop, min, set, Result, Ok, Err}
use Rattle.refusals.specs.Told.{Told, answered, refused}
use Rattle.refusals.specs.Number.{NO_ROOM}
use Rattle.refusals.specs.declared.Refusal.{Refusal}
use Rattle.refusals.specs.declared.Refusal.TheVariants as refusals
use Rattle.pll_rows.specs.declared.PllPlan.{PllPlan}
use Rattle.pll_rows.specs.Sequence.{Access, Ending, locked, timed_out, starved, accesses_of}
use Rattle.pll_seq.specs.declared.End.{End}
use Rattle.pll_seq.specs.declared.End.TheVariants.{Locked, TimedOut, Starved}
use Rattle.pll_seq.specs.declared.NoRoom.{NoRoom}
use Rattle.pll_seq.specs.declared.Ran.{Ran}
use Rattle.pll_seq.specs.declared.recorder.Kind.{Kind}
use Rattle.pll_seq.specs.declared.recorder.Kind.TheVariants.{Read, Write}

-- ---- the rows

pub record Rows : Type 0 where
  pub kinds : List ℕ
  pub numbers : List ℕ
  pub values : List ℕ

abbrev pub rows : List ℕ → List ℕ → List ℕ → Rows
rows k n v = record { kinds = k; numbers = n; values = v }

-- the rows with an access as record n
abbrev pub stored : ℕ → Access → Rows → Rows
stored n a r = rows (set r.kinds n a.kind) (set r.numbers n a.number) (set r.values n a.value)

abbrev pub number_of : Kind → ℕ
number_of Read = 0
number_of Write = 1

-- every number but 0 is a write's
abbrev pub kind_of : ℕ → Kind
kind_of zero = Read
kind_of (suc n) = Write

-- the row with xs over its first records
abbrev pub over : List ℕ → List ℕ → List ℕ
over xs row = xs ++ drop (length xs) row

abbrev pub written : List Access → Rows → Rows
written list r =
    rows
    (over (map (λ (a : Access). a.kind) list) r.kinds)
    (over (map (λ (a : Access). a.number) list) r.numbers)
    (over (map (λ (a : Access). a.value) list) r.values)

-- n records fit
pub record Room (n : ℕ) (r : Rows) : Type 0 where
  pub kinds : n ≤ length r.kinds
  pub numbers : n ≤ length r.numbers
  pub values : n ≤ length r.values

abbrev pub Short : ℕ → Rows → Type 0
Short n r = (length r.kinds < n) ⊎ ((length r.numbers < n) ⊎ (length r.values < n))

-- ---- what is told

-- the most accesses that so many words can come to: a read each, and six writes
abbrev pub most : List ℕ → ℕ
most words = length words + 6

pub record Ended : Type 0 where
  pub end : Ending
  pub accesses : ℕ

abbrev pub ending : End → Ending
ending Locked = locked
ending TimedOut = timed_out
ending Starved = starved

-- as far as 32 bits go
abbrev pub refusal_of : NoRoom → Refusal
refusal_of e = refusals.NoRoom (min e.needed 4294967295)

abbrev pub told : Result Ran NoRoom → Told Ended
told (Ok r) = answered (record { end = ending r.end; accesses = r.accesses })
told (Err e) = refused NO_ROOM (e.needed ∷ [])

-- The rows before, the rows after, and what is told.
pub data Recorded (plan : PllPlan) (limit : ℕ) (words : List ℕ) (before : Rows) : Rows → Told Ended → Type 0 where
  no_room : Short (most words) before → Recorded plan limit words before before (refused NO_ROOM (most words ∷ []))
  recorded : Room (most words) before →
      Recorded plan limit words before
      (written (accesses_of plan limit words).accesses before)
      (answered (record { end = (accesses_of plan limit words).end; accesses = length (accesses_of plan limit words).accesses }))
