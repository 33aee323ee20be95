-- A list of accesses is at most six longer than the words that the host returns: each read uses up a word, and there are six writes.
-- Assumes nothing.
use Prim.Native.Nat.{ℕ, zero, suc, ◌+◌, ◌≤◌, zero-le}
use mathlib.Core.Bool.{Bool, true, false, cond}
use mathlib.Core.List.{List, [], ◌∷◌}
use native.Mathlib.Omega.{arith}
use native.Mathlib.Nat.{le_refl}
use lib.ListN.{length, drop}
use Rattle.fields.specs.declared.Field.{Field}
use Rattle.pll_rows.specs.declared.PllPlan.{PllPlan}
use Rattle.pll_rows.specs.Sequence.{Row, read, write, poll, Log, seen, reads, polls, log, sequence}

abbrev len : Log → ℕ
len l = length l.accesses

abbrev writes : List Row → ℕ
writes [] = 0
writes (read i ∷ rows) = writes rows
writes (write i f ∷ rows) = suc (writes rows)
writes (poll i bit ∷ rows) = writes rows

reads_bounded : (i : ℕ) (go : ℕ → List ℕ → Log) (b : ℕ) → ((x : ℕ) (words : List ℕ) → len (go x words) ≤ b + length words) →
    (words : List ℕ) → len (reads i go words) ≤ b + length words
reads_bounded i go b h [] = zero-le
reads_bounded i go b h (x ∷ words) = omega (arith, h x words)

polls_bounded : (i : ℕ) (bit : Field) (go : ℕ → ℕ → List ℕ → Log) (b : ℕ) →
    ((n x : ℕ) (words : List ℕ) → len (go n x words) ≤ b + length words) →
    (n : ℕ) (words : List ℕ) → len (polls i bit go n words) ≤ b + length words
polls_bounded i bit go b h zero words = zero-le
polls_bounded i bit go b h (suc n) [] = zero-le
polls_bounded i bit go b h (suc n) (x ∷ words) =
    omega (arith, either (seen x bit) (go n x words) (polls i bit go n words) (h n x words) (polls_bounded i bit go b h n words))
  where
    either : (shown : Bool) (l k : Log) → len l ≤ b + length words → len k ≤ b + length words → len (cond shown l k) ≤ b + length words
    either true l k p q = p
    either false l k p q = q

bounded : (rows : List Row) (n w : ℕ) (words : List ℕ) → len (log rows n w words) ≤ writes rows + length words
bounded [] n w words = zero-le
bounded (read i ∷ rows) n w words = reads_bounded i (log rows n) (writes rows) (bounded rows n) words
bounded (write i f ∷ rows) n w words = omega (arith, bounded rows n (f w) words)
bounded (poll i bit ∷ rows) n w words = polls_bounded i bit (log rows) (writes rows) (bounded rows) n words

fewer : (k : ℕ) (rows : List Row) → writes (drop k rows) ≤ writes rows
fewer zero rows = le_refl (writes rows)
fewer (suc k) [] = zero-le
fewer (suc k) (read i ∷ rows) = fewer k rows
fewer (suc k) (write i f ∷ rows) = omega (arith, fewer k rows)
fewer (suc k) (poll i bit ∷ rows) = fewer k rows

-- from any row on
pub at_most_written : (plan : PllPlan) (k n w : ℕ) (words : List ℕ) →
    length (log (drop k (sequence plan)) n w words).accesses ≤ 6 + length words
at_most_written plan k n w words = omega (arith, bounded (drop k (sequence plan)) n w words, fewer k (sequence plan))
