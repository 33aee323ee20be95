-- What is left on the page that an answer is written on.
use Rattle.std.specs.Prelude.{ℕ, ◌≤◌, List, length}
use Rattle.text.specs.Page.{Contents}
use Rattle.text.specs.Put.{Wrote}

-- no answer is longer, its newline included
abbrev pub ROOM : ℕ
ROOM = 8192

-- a text was written, and it is no longer than `most`
pub record Said (most : ℕ) (text : List ℕ) (before after : Contents) : Type 0 where
  pub wrote : Wrote text before after
  pub within : length text ≤ most

-- what was written is a right answer
pub record Says (Right : List ℕ → Type 0) (before after : Contents) : Type 0 where
  pub text : List ℕ
  pub right : Right text
  pub said : Said 8000 text before after
