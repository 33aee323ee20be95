-- One step through a block: what of it was used, and what was written on the page.
use Rattle.std.specs.Prelude.{ℕ, ◌-◌, ◌≤◌, ◌<◌, false, List, length, Result, Ok, Err}
use Rattle.text.specs.Page.{Contents}
use Rattle.text.specs.Put.{Wrote}
use Rattle.words.specs.Words.{part}
use Rattle.forms.specs.Says.{ROOM}
use Rattle.desk.specs.Session.{NoNewline, Session}
use Rattle.desk.specs.declared.block.FullAt.{FullAt}
use Rattle.desk.specs.declared.block.Place.{Place}

-- where a line begins
abbrev pub fresh : ℕ → Place
fresh used = record { used = used; swallowing = false }

-- from one place up to another the input is a session, told with their two marks, whose texts were written
pub record Through (input : List ℕ) (from to : Place) (before after : Contents) : Type 0 where
  pub onward : from.used ≤ to.used
  pub within : to.used ≤ length input
  pub texts : List ℕ
  pub session : Session from.swallowing (part input from.used to.used) texts to.swallowing
  pub wrote : Wrote texts before after

-- It stops for want of room only, or with a piece of a line left that can be kept.
pub data Block (input : List ℕ) (from : Place) (before after : Contents) : Result Place FullAt → Type 0 where
  full : {stop : FullAt} → Through input from (fresh stop.used) before after → length after.rest < ROOM → Block input from before after (Err stop)
  done : {to : Place} → Through input from to before after → length input - to.used ≤ 1025 → NoNewline (part input to.used (length input))
      → Block input from before after (Ok to)

-- where only whole lines are answered
pub data LinesOf (input : List ℕ) (from : ℕ) (before after : Contents) : Result ℕ FullAt → Type 0 where
  full : {stop : FullAt} → Through input (fresh from) (fresh stop.used) before after → length after.rest < ROOM → LinesOf input from before after (Err stop)
  done : {used : ℕ} → Through input (fresh from) (fresh used) before after → NoNewline (part input used (length input))
      → LinesOf input from before after (Ok used)
