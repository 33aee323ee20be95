-- The whole list of accesses: how long it is at most, and that refusal 11 is its end exactly when the polls say so.
-- Assumes nothing.
use Prim.Native.Nat.{ℕ, zero, suc, ◌+◌, ◌≤◌, zero-le}
use mathlib.Core.Path.{◌≡◌, refl}
use mathlib.Core.Logic.{◌↔◌}
use mathlib.Core.Bool.{Bool, true, false, cond}
use mathlib.Core.List.{List, [], ◌∷◌}
use native.Mathlib.Omega.{arith}
use native.Mathlib.Nat.{le_refl}
use lib.ListN.{length, drop}
use Rattle.fields.specs.declared.Field.{Field}
use Rattle.registers.specs.Plls.{pll_lock}
use Rattle.pll_rows.specs.declared.PllPlan.{PllPlan}
use Rattle.pll_rows.specs.Sequence.{Row, read, write, poll, Log, locked, timed_out, starved, seen, reads, polls, log, sequence, accesses_of}

-- ---- at most 11 accesses and the polls

abbrev len : Log → ℕ
len l = length l.accesses

-- the rows that are no polls
abbrev plain : List Row → ℕ
plain [] = 0
plain (read i ∷ rows) = suc (plain rows)
plain (write i f ∷ rows) = suc (plain rows)
plain (poll i bit ∷ rows) = plain rows

reads_bounded : (i : ℕ) (go : ℕ → List ℕ → Log) (b : ℕ) → ((x : ℕ) (words : List ℕ) → len (go x words) ≤ b) →
    (words : List ℕ) → len (reads i go words) ≤ suc b
reads_bounded i go b h [] = zero-le
reads_bounded i go b h (x ∷ words) = omega (arith, h x words)

polls_bounded : (i : ℕ) (bit : Field) (go : ℕ → ℕ → List ℕ → Log) (b : ℕ) →
    ((n x : ℕ) (words : List ℕ) → len (go n x words) ≤ b + n) →
    (n : ℕ) (words : List ℕ) → len (polls i bit go n words) ≤ b + n
polls_bounded i bit go b h zero words = zero-le
polls_bounded i bit go b h (suc n) [] = zero-le
polls_bounded i bit go b h (suc n) (x ∷ words) =
    omega (arith, either (seen x bit) (go n x words) (polls i bit go n words) (h n x words) (polls_bounded i bit go b h n words))
  where
    either : (shown : Bool) (l k : Log) → len l ≤ b + n → len k ≤ b + n → len (cond shown l k) ≤ b + n
    either true l k p q = p
    either false l k p q = q

bounded : (rows : List Row) (n w : ℕ) (words : List ℕ) → len (log rows n w words) ≤ plain rows + n
bounded [] n w words = zero-le
bounded (read i ∷ rows) n w words = omega (arith, reads_bounded i (log rows n) (plain rows + n) (bounded rows n) words)
bounded (write i f ∷ rows) n w words = omega (arith, bounded rows n (f w) words)
bounded (poll i bit ∷ rows) n w words = polls_bounded i bit (log rows) (plain rows) (bounded rows) n words

fewer : (k : ℕ) (rows : List Row) → plain (drop k rows) ≤ plain rows
fewer zero rows = le_refl (plain rows)
fewer (suc k) [] = zero-le
fewer (suc k) (read i ∷ rows) = omega (arith, fewer k rows)
fewer (suc k) (write i f ∷ rows) = omega (arith, fewer k rows)
fewer (suc k) (poll i bit ∷ rows) = fewer k rows

-- from any row on
pub at_most_from : (plan : PllPlan) (k n w : ℕ) (words : List ℕ) → length (log (drop k (sequence plan)) n w words).accesses ≤ 11 + n
at_most_from plan k n w words = omega (arith, bounded (drop k (sequence plan)) n w words, fewer k (sequence plan))

pub at_most : (plan : PllPlan) (limit : ℕ) (words : List ℕ) → length (accesses_of plan limit words).accesses ≤ 11 + limit
at_most plan limit words = at_most_from plan 0 limit 0 words

-- ---- refusal 11 exactly when the limit's number of polls all show the bit clear

-- there are n words, and none of them shows the bit
abbrev pub AllClear : Field → ℕ → List ℕ → Type 0
AllClear bit zero words = Unit {0}
AllClear bit (suc n) [] = ⊥
AllClear bit (suc n) (x ∷ words) = (seen x bit ≡ false) × AllClear bit n words

not_starved : starved ≡ timed_out → ⊥
not_starved e = let z : ◌≡◌ {A = ℕ} 0 1 = cc in omega arith

not_locked : locked ≡ timed_out → ⊥
not_locked e = let z : ◌≡◌ {A = ℕ} 0 1 = cc in omega arith

-- what follows the polls ends otherwise
Otherwise : (ℕ → ℕ → List ℕ → Log) → Type 0
Otherwise go = (n x : ℕ) (words : List ℕ) → (go n x words).end ≡ timed_out → ⊥

module _ (i : ℕ) (bit : Field) (go : ℕ → ℕ → List ℕ → Log) (otherwise : Otherwise go) where
  when_clear : (n : ℕ) (words : List ℕ) → AllClear bit n words → (polls i bit go n words).end ≡ timed_out
  when_clear zero words h = refl
  when_clear (suc n) [] h = absurd h
  when_clear (suc n) (x ∷ words) h = rw h.0 (when_clear n words h.1)

  only_when_clear : (n : ℕ) (words : List ℕ) → (polls i bit go n words).end ≡ timed_out → AllClear bit n words
  unfolding Otherwise
  only_when_clear zero words e = tt
  only_when_clear (suc n) [] e = absurd (not_starved e)
  only_when_clear (suc n) (x ∷ words) e = by (seen x bit) refl e (only_when_clear n words)
    where
      by : (shown : Bool) → seen x bit ≡ shown → (cond shown (go n x words) (polls i bit go n words)).end ≡ timed_out →
          ((polls i bit go n words).end ≡ timed_out → AllClear bit n words) → (seen x bit ≡ false) × AllClear bit n words
      by true q h later = absurd (otherwise n x words h)
      by false q h later = (q, later h)

last_rows : (i j : ℕ) (f : ℕ → ℕ) → Otherwise (log (read i ∷ write j f ∷ []))
unfolding Otherwise
last_rows i j f n w [] e = not_starved e
last_rows i j f n w (x ∷ words) e = not_locked e

-- the first four words are read before the first poll
pub refusal_11 : (plan : PllPlan) (limit a b c d : ℕ) (words : List ℕ) →
    ((accesses_of plan limit (a ∷ b ∷ c ∷ d ∷ words)).end ≡ timed_out) ↔ AllClear (pll_lock plan.pll) limit words
refusal_11 plan limit a b c d words =
    (only_when_clear _ (pll_lock plan.pll) _ (last_rows _ _ _) limit words, when_clear _ (pll_lock plan.pll) _ (last_rows _ _ _) limit words)
