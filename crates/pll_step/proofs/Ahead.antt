-- One step, and what is ahead before and after it. Over any table, place and words. Assumes nothing.
use Prim.Native.Nat.{ℕ, zero, suc, ◌+◌, ◌-◌}
use native.Mathlib.Nat.{add-sub_cancel}
use native.Mathlib.Numerals.{add-one, sub-one}
use mathlib.Core.Path.{◌≡◌, refl, sym, ap, ◌∙◌, subst}
use mathlib.Core.Bool.{Bool, true, false, cond}
use mathlib.Core.List.{List, [], ◌∷◌}
use lib.Dec.{eqb-suc-zero}
use lib.ListN.{drop}
use lib.Seq.{drop-drop}
use Rattle.refusals.specs.Told.{Told, answered, refused}
use Rattle.fields.specs.declared.Field.{Field}
use Rattle.pll_rows.specs.Sequence.{Row, read, write, poll, Log, timed_out, starved, a_read, a_write, after, ends, seen, polls, log}
use Rattle.pll_rows.specs.Sequence as rows
use Rattle.pll_step.specs.declared.Place.{Place}
use Rattle.pll_step.specs.Step.{Asked, reads, writes, locked, place, asked_last, taken, received, due, ask}
use Rattle.pll_step.specs.Runs.{ahead}

-- What a step's answer makes of the words: a is asked, p is the place after it, and y is what the host hands in after a write.
abbrev pub unfolded : List Row → Told Asked → Place → ℕ → List ℕ → Log
unfolded table (answered (reads i)) p y [] = ends starved
unfolded table (answered (reads i)) p y (x ∷ words) = after (a_read i x) (ahead table (received table p x) words)
unfolded table (answered (writes i v)) p y words = after (a_write i v) (ahead table (received table p y) words)
unfolded table (answered locked) p y words = ends rows.locked
unfolded table (refused n ns) p y words = ends timed_out

module _ (table : List Row) (k : ℕ) where
  module _ {row : Row} {rest : List Row} (e : drop k table ≡ row ∷ rest) where
    -- once a row is asked for it is the row asked last, and what follows it is due
    asked_now : asked_last (k + 1) table ≡ row ∷ rest
    asked_now = rw add-one e

    due_then : drop (k + 1) table ≡ rest
    due_then = sym (drop-drop 1 k table) ∙ ap (drop 1) e

    received_then : (n w x : ℕ) → received table (place (k + 1) n w) x ≡ taken (row ∷ rest) (place (k + 1) n w) x
    received_then n w x = ap (λ (l : List Row). taken l (place (k + 1) n w) x) asked_now

    ahead_then : (n w x : ℕ) (words : List ℕ) →
        ahead table (received table (place (k + 1) n w) x) words ≡ ahead table (taken (row ∷ rest) (place (k + 1) n w) x) words
    ahead_then n w x words = ap (λ (p : Place). ahead table p words) (received_then n w x)

  -- a poll was asked for: the rows after it where the bit is seen, else the poll again
  ahead_polled : {i : ℕ} {bit : Field} {rest : List Row} → drop k table ≡ poll i bit ∷ rest → (shown : Bool) (n x : ℕ) (words : List ℕ) →
      cond shown (log rest n x words) (polls i bit (log rest) n words) ≡ log (drop (cond shown (k + 1) (k + 1 - 1)) table) n x words
  ahead_polled e true n x words = ap (λ (l : List Row). log l n x words) (sym (due_then e))
  ahead_polled e false n x words =
      ap (λ (l : List Row). log l n x words) (sym e ∙ ap (λ (j : ℕ). drop j table) (sym (add-sub_cancel k 1)))

  -- asking for the first of the rows that are left
  from : (n w y : ℕ) (l : List Row) (words : List ℕ) → drop k table ≡ l →
      log l n w words ≡ unfolded table (due l (place k n w)).asked (due l (place k n w)).place y words
  from n w y [] words e = refl
  from n w y (read i ∷ rest) [] e = refl
  from n w y (read i ∷ rest) (x ∷ words) e =
      ap (after (a_read i x)) (ap (λ (l : List Row). log l n x words) (sym (due_then e)) ∙ sym (ahead_then e n w x words))
  from n w y (write i f ∷ rest) words e =
      ap (after (a_write i (f w))) (ap (λ (l : List Row). log l n (f w) words) (sym (due_then e)) ∙ sym (ahead_then e n (f w) y words))
  from zero w y (poll i bit ∷ rest) words e = refl
  from (suc n) w y (poll i bit ∷ rest) words e =
      rw (eqb-suc-zero n)
      (subst
      (λ (m : ℕ). polls i bit (log rest) (suc n) words ≡ unfolded table (answered (reads i)) (place (k + 1) m w) y words)
      (sym (sub-one (suc n)))
      (polled words))
    where
      polled : (words : List ℕ) → polls i bit (log rest) (suc n) words ≡ unfolded table (answered (reads i)) (place (k + 1) n w) y words
      polled [] = refl
      polled (x ∷ words) = ap (after (a_read i x)) (ahead_polled e (seen x bit) n x words ∙ sym (ahead_then e n w x words))

-- What is ahead of a place is what its step asks for, and then what is ahead of the next place.
pub one_step : (table : List Row) (p : Place) (y : ℕ) (words : List ℕ) →
    ahead table p words ≡ unfolded table (ask table p).asked (ask table p).place y words
one_step table p y words = from table p.at p.polls p.word y (drop p.at table) words refl
