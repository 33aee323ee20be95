-- Setting one IO clock in a row of clocks: the record's update, as a caller through C makes it. That it is the record's own is the law
-- `is_update` of proofs/Update.antt.
use Rattle.std.specs.Prelude.{ℕ, ◌+◌, ◌≤◌, ◌<◌, List, [], ◌∷◌, length, set}
use Rattle.refusals.specs.Number.{NO_ROOM, BAD_FIELD}
use Rattle.handing.specs.Handed.{code}

-- where smc stands in `clock_words`; the six after it follow
abbrev pub FIRST_IO : ℕ
FIRST_IO = 13

pub data IoUpdated (which hertz : ℕ) (before : List ℕ) : ℕ → List ℕ → Type 0 where
  short : length before < 26 → IoUpdated which hertz before (code NO_ROOM (26 ∷ [])) before
  no_such_clock : 26 ≤ length before → 6 < which → IoUpdated which hertz before (code BAD_FIELD []) before
  sets : 26 ≤ length before → which ≤ 6 → IoUpdated which hertz before 0 (set before (which + FIRST_IO) hertz)
