-- A whole run: a host steps from a place until an end, and does what each step asks.
use Rattle.std.specs.Prelude.{ℕ, ◌≡◌, List, [], ◌∷◌, drop}
use Rattle.refusals.specs.Told.{Told, answered, refused}
use Rattle.refusals.specs.Number.{LOCK_TIMEOUT}
use Rattle.pll_rows.specs.declared.PllPlan.{PllPlan}
use Rattle.pll_rows.specs.Sequence.{Row, Log, timed_out, starved, a_read, a_write, after, ends, log, sequence}
use Rattle.pll_rows.specs.Sequence as rows
use Rattle.pll_step.specs.declared.Place.{Place}
use Rattle.pll_step.specs.declared.PllSequence.{PllSequence}
use Rattle.pll_step.specs.Step.{Asked, reads, writes, locked, received, next}

-- What is still to be asked for from a place, once the host's word has been taken in.
abbrev pub ahead : List Row → Place → List ℕ → Log
ahead table p words = log (drop p.at table) p.polls p.word words

-- The same from a state, x being the word that is handed to its step.
abbrev pub ahead_of : PllSequence → ℕ → List ℕ → Log
ahead_of s x words = ahead (sequence s.plan) (received (sequence s.plan) s.place x) words

abbrev steps_to : PllPlan → Place → ℕ → Told Asked → Place → Type 0
steps_to plan p x asked q = next (record { plan = plan; place = p }) x ≡ record { asked = asked; place = q }

-- From place p, with x handed to the step and these words returned to the reads to come, the accesses are those of the log.
-- After a write the host may hand in any word.
pub data Runs (plan : PllPlan) : Place → ℕ → List ℕ → Log → Type 0 where
  reading : {p q : Place} {x i y : ℕ} {words : List ℕ} {l : Log} →
      steps_to plan p x (answered (reads i)) q → Runs plan q y words l → Runs plan p x (y ∷ words) (after (a_read i y) l)
  starving : {p q : Place} {x i : ℕ} → steps_to plan p x (answered (reads i)) q → Runs plan p x [] (ends starved)
  writing : {p q : Place} {x i v : ℕ} {words : List ℕ} {l : Log} →
      steps_to plan p x (answered (writes i v)) q → (y : ℕ) → Runs plan q y words l → Runs plan p x words (after (a_write i v) l)
  locking : {p q : Place} {x : ℕ} {words : List ℕ} → steps_to plan p x (answered locked) q → Runs plan p x words (ends rows.locked)
  timing_out : {p q : Place} {x : ℕ} {words : List ℕ} →
      steps_to plan p x (refused LOCK_TIMEOUT []) q → Runs plan p x words (ends timed_out)
