-- A page as its writers see it: the buffer that it was lent is the text, and behind it the rest.
use Rattle.std.specs.Prelude.{ℕ, List, take, drop}
use Rattle.std.specs.Borrow.{GName}
use Rattle.text.specs.declared.page.Page.{Page}

pub record Contents : Type 0 where
  -- what has been written
  pub text : List ℕ
  -- the bytes that are still to be written over
  pub rest : List ℕ
  -- the borrow that it writes through: while it is the one that the page was made over, the buffer holds the text and the rest once the page is gone
  pub lent : GName

abbrev pub contents : Page → Contents
contents p = record { text = take p.len p.bytes.now; rest = drop p.len p.bytes.now; lent = p.bytes.ghost_name }
