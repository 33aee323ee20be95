-- One step of a run: the word that the host read is taken in, and the row of the table that is due is asked for. Every state has
-- a meaning: past the last row it is locked, and the word handed in counts only where a read was asked for last.
use Rattle.std.specs.Prelude.{ℕ, zero, suc, ◌+◌, ◌-◌, cond, ◌≡◌, List, [], ◌∷◌, eqb, drop}
use Rattle.refusals.specs.Told.{Told, answered, refused}
use Rattle.refusals.specs.Number.{LOCK_TIMEOUT}
use Rattle.pll_step.specs.declared.Place.{Place}
use Rattle.pll_step.specs.declared.PllSequence.{PllSequence}
use Rattle.pll_step.specs.declared.Request.{Request}
use Rattle.pll_step.specs.declared.Request.TheVariants.{Read, Write, Locked, LockTimeout}
use Rattle.pll_step.specs.declared.Step.{Step}
use Rattle.pll_rows.specs.Sequence.{Row, read, write, poll, sequence, seen}

-- What a step asks of the host: read a word of the image, write a value to one, or nothing more.
pub data Asked : Type 0 where
  reads : ℕ → Asked
  writes : ℕ → ℕ → Asked
  locked : Asked

abbrev pub told : Request → Told Asked
told (Read i) = answered (reads i)
told (Write i v) = answered (writes i v)
told Locked = answered locked
told LockTimeout = refused LOCK_TIMEOUT []

-- at is how many rows are done, n the polls left, w the word last read or written
abbrev pub place : ℕ → ℕ → ℕ → Place
place at n w = record { at = at; polls = n; word = w }

-- ---- the word handed in

-- the rows from the one that was asked for last
abbrev pub asked_last : ℕ → List Row → List Row
asked_last zero rows = []
asked_last (suc k) rows = drop k rows

-- after a poll that does not show the bit, the poll is due again
abbrev pub taken : List Row → Place → ℕ → Place
taken [] p x = p
taken (read i ∷ rows) p x = place p.at p.polls x
taken (write i f ∷ rows) p x = p
taken (poll i bit ∷ rows) p x = place (cond (seen x bit) p.at (p.at - 1)) p.polls x

abbrev pub received : List Row → Place → ℕ → Place
received rows p x = taken (asked_last p.at rows) p x

-- ---- what is asked next, and the place after it

pub record Asking : Type 0 where
  pub asked : Told Asked
  pub place : Place

abbrev pub due : List Row → Place → Asking
due [] p = record { asked = answered locked; place = p }
due (read i ∷ rows) p = record { asked = answered (reads i); place = place (p.at + 1) p.polls p.word }
due (write i f ∷ rows) p = record { asked = answered (writes i (f p.word)); place = place (p.at + 1) p.polls (f p.word) }
due (poll i bit ∷ rows) p =
    cond (eqb p.polls 0)
    (record { asked = refused LOCK_TIMEOUT []; place = p })
    (record { asked = answered (reads i); place = place (p.at + 1) (p.polls - 1) p.word })

abbrev pub ask : List Row → Place → Asking
ask rows p = due (drop p.at rows) p

-- ---- the step

abbrev pub next : PllSequence → ℕ → Asking
next s x = ask (sequence s.plan) (received (sequence s.plan) s.place x)

-- the plan stays
pub record Steps (s : PllSequence) (x : ℕ) (r : Step) : Type 0 where
  pub asked : told r.request ≡ (next s x).asked
  pub place : r.next.place ≡ (next s x).place
  pub plan : r.next.plan ≡ s.plan
