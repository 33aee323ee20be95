-- A recorder before and after an access.
use Rattle.std.specs.Prelude.{ℕ, ◌+◌, ◌≡◌, [], ◌∷◌, Result, MatchResult}
use Rattle.pll_rows.specs.Sequence.{Access, a_read}
use Rattle.pll_seq.specs.declared.End.{End}
use Rattle.pll_seq.specs.declared.End.TheVariants.{Starved}
use Rattle.pll_seq.specs.declared.recorder.Recorder.{Recorder}
use Rattle.pll_seq.specs.Record.{Rows, rows, stored}

-- its rows, as they are
abbrev pub rows_of : Recorder → Rows
rows_of r = rows r.kinds.now r.numbers.now r.values.now

-- the same rows are lent still
pub record SameRows (before now : Recorder) : Type 0 where
  pub kinds : now.kinds.ghost_name ≡ before.kinds.ghost_name
  pub numbers : now.numbers.ghost_name ≡ before.numbers.ghost_name
  pub values : now.values.ghost_name ≡ before.values.ghost_name

-- one access more
pub record Puts (before : Recorder) (a : Access) (now : Recorder) : Type 0 where
  pub rows : rows_of now ≡ stored before.count a (rows_of before)
  pub count : now.count ≡ before.count + 1

pub record HasRead (before : Recorder) (number : ℕ) (now : Recorder) (word : ℕ) : Type 0 where
  pub puts : Puts before (a_read number word) now
  pub words : before.words.now ≡ word ∷ now.words.now

pub record HasStarved (before now : Recorder) (e : End) : Type 0 where
  pub end : e ≡ Starved
  pub words : before.words.now ≡ []
  pub rows : rows_of now ≡ rows_of before
  pub count : now.count ≡ before.count

abbrev pub Reads : Recorder → ℕ → Recorder → Result ℕ End → Type 0
Reads before number now r = MatchResult r (HasRead before number now) (HasStarved before now)
