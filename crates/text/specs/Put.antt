-- What a writer leaves on the page that it was lent, and what it answers.
use Rattle.std.specs.Prelude.{ℕ, ◌+◌, ◌≡◌, List, ◌++◌, length, drop, Result, IsOk, IsErr}
use Rattle.bounds.specs.Within.{Within}
use Rattle.text.specs.Page.{Contents}
use Rattle.text.specs.declared.page.Full.{Full}

-- the text stands behind what was written before, within the buffer, and every other byte is as it was
pub record Wrote (text : List ℕ) (before after : Contents) : Type 0 where
  pub text_is : after.text ≡ before.text ++ text
  pub rest_is : after.rest ≡ drop (length text) before.rest
  pub inside : length after.rest + length text ≡ length before.rest
  pub same_buffer : after.lent ≡ before.lent

-- A writer that wants `most` bytes of room before it starts. Without them it writes nothing, and says so.
abbrev pub InRoom : ℕ → (Contents → Contents → Type 0) → Contents → Contents → Result Unit Full → Type 0
InRoom most Writes before after answer =
    Within most (length before.rest) (IsOk answer × Writes before after) (IsErr answer × (after ≡ before))

-- a text wants room for itself
abbrev pub Put : List ℕ → Contents → Contents → Result Unit Full → Type 0
Put text = InRoom (length text) (Wrote text)
