-- The contract of the whole run: whatever words the host returns, and whatever it hands in where no read was asked for, it comes to
-- an end, and the accesses are exactly those of document 01's list. Assumes nothing.
use Prim.Native.Nat.{ℕ, zero, suc, ◌+◌, ◌-◌, ◌<◌}
use native.Mathlib.Nat.{le_refl, le_of_suc-le-suc, not-suc-le-zero}
use mathlib.Core.Path.{◌≡◌, refl, sym, ap, ◌∙◌}
use mathlib.Core.Bool.{Bool, true, false, cond}
use mathlib.Core.List.{List, [], ◌∷◌}
use lib.Dec.{eqb}
use lib.ListN.{length, drop}
use Rattle.refusals.specs.Told.{Told, answered, refused}
use Rattle.refusals.specs.Number.{LOCK_TIMEOUT}
use Rattle.pll_rows.specs.declared.PllPlan.{PllPlan}
use Rattle.pll_rows.specs.Sequence.{Row, read, write, poll, Log, a_read, a_write, after, sequence, accesses_of}
use Rattle.pll_step.specs.declared.Place.{Place}
use Rattle.pll_step.specs.Step.{Asked, reads, writes, locked, Asking, place, received, due, ask}
use Rattle.pll_step.specs.Runs.{ahead, Runs, reading, starving, writing, locking, timing_out}
use Rattle.pll_step.proofs.Ahead.{unfolded, one_step}

module _ (plan : PllPlan) where
  abbrev table : List Row
  table = sequence plan

  -- the step from p with x handed in, and what it makes of the words
  stepped : (p : Place) (x y : ℕ) (words : List ℕ) {a : Told Asked} {q : Place} →
      ask table (received table p x) ≡ record { asked = a; place = q } → ahead table (received table p x) words ≡ unfolded table a q y words
  stepped p x y words e = one_step table (received table p x) y words ∙ ap (λ (n : Asking). unfolded table n.asked n.place y words) e

  pub exactly : {p : Place} {x : ℕ} {words : List ℕ} {l : Log} → Runs plan p x words l → l ≡ ahead table (received table p x) words
  exactly {p} {x} {words = y ∷ words} (reading {i} e r) = ap (after (a_read i y)) (exactly r) ∙ sym (stepped p x 0 (y ∷ words) e)
  exactly {p} {x} (starving e) = sym (stepped p x 0 [] e)
  exactly {p} {x} {words} (writing {i} {v} e y r) = ap (after (a_write i v)) (exactly r) ∙ sym (stepped p x y words e)
  exactly {p} {x} {words} (locking e) = sym (stepped p x 0 words e)
  exactly {p} {x} {words} (timing_out e) = sym (stepped p x 0 words e)

-- what a step can ask
data Form : Told Asked → Type 0 where
  a_reading : (i : ℕ) → Form (answered (reads i))
  a_writing : (i v : ℕ) → Form (answered (writes i v))
  a_lock : Form (answered locked)
  a_timeout : Form (refused LOCK_TIMEOUT [])

form : (rows : List Row) (p : Place) → Form (due rows p).asked
form [] p = a_lock
form (read i ∷ rows) p = a_reading i
form (write i f ∷ rows) p = a_writing i (f p.word)
form (poll i bit ∷ rows) p = by (eqb p.polls 0)
  where
    by : (none : Bool) →
        Form
        (cond {A = Asking} none
        (record { asked = refused LOCK_TIMEOUT []; place = p })
        (record { asked = answered (reads i); place = place (p.at + 1) (p.polls - 1) p.word })
        ).asked
    by true = a_timeout
    by false = a_reading i

module _ (plan : PllPlan) where
  abbrev rest : Place → ℕ → List ℕ → Log
  rest p x words = ahead (sequence plan) (received (sequence plan) p x) words

  -- every run that makes fewer than n accesses is there
  abbrev Below : ℕ → Type 0
  Below n = (p : Place) (x : ℕ) (words : List ℕ) → length (rest p x words).accesses < n → Runs plan p x words (rest p x words)

  on : (n : ℕ) → Below n → (p : Place) (x : ℕ) (words : List ℕ) {a : Told Asked} {q : Place} → Form a →
      ask (sequence plan) (received (sequence plan) p x) ≡ record { asked = a; place = q } →
      length (unfolded (sequence plan) a q 0 words).accesses < suc n → Runs plan p x words (unfolded (sequence plan) a q 0 words)
  on n below p x [] (a_reading i) e h = starving e
  on n below p x (y ∷ words) {q} (a_reading i) e h = reading e (below q y words (le_of_suc-le-suc h))
  on n below p x words {q} (a_writing i v) e h = writing e 0 (below q 0 words (le_of_suc-le-suc h))
  on n below p x words a_lock e h = locking e
  on n below p x words a_timeout e h = timing_out e

  below : (n : ℕ) → Below n
  below zero p x words h = absurd (not-suc-le-zero h)
  below (suc n) p x words h =
      let r = received (sequence plan) p x in
      let e = one_step (sequence plan) r 0 words in
      rw e (on n (below n) p x words (form (drop r.at (sequence plan)) r) refl (rw (← e) h))

  pub always : (p : Place) (x : ℕ) (words : List ℕ) → Runs plan p x words (rest p x words)
  always p x words = below (suc (length (rest p x words).accesses)) p x words (le_refl _)

-- from the start
pub whole_run : (plan : PllPlan) (limit : ℕ) {x : ℕ} {words : List ℕ} {l : Log} → Runs plan (place 0 limit 0) x words l → l ≡ accesses_of plan limit words
whole_run plan limit r = exactly plan r

pub ends : (plan : PllPlan) (limit x : ℕ) (words : List ℕ) → Runs plan (place 0 limit 0) x words (accesses_of plan limit words)
ends plan limit x words = always plan (place 0 limit 0) x words
