-- One access more, as the recorder's own functions make it: a read of the next word, or a write. Assumes nothing.
use Prim.Native.Nat.{ℕ, ◌+◌, ◌<◌}
use native.Mathlib.Omega.{arith}
use mathlib.Core.Path.{◌≡◌, ap, ◌∙◌}
use mathlib.Core.List.{List, [], ◌∷◌}
use lib.ListN.{length}
use Rattle.std.specs.Prelude.{Result, Ok, Err}
use Rattle.pll_rows.specs.Sequence.{Access, Log, after, ends, reads}
use Rattle.pll_seq.specs.declared.End.{End}
use Rattle.pll_seq.specs.declared.recorder.Recorder.{Recorder}
use Rattle.pll_seq.specs.Record.{Rows, Room, ending}
use Rattle.pll_seq.specs.Recorder.{rows_of, SameRows, Puts, HasRead, HasStarved}
use Rattle.pll_seq.specs.Moves.{Moves, Turns, Goes}
use Rattle.pll_seq.proofs.Moved.{Going, for_next, goes_on, arrives, then}

pub same_rows : {a b c : Recorder} → SameRows a b → SameRows b c → SameRows a c
same_rows h g = record { kinds = g.kinds ∙ h.kinds; numbers = g.numbers ∙ h.numbers; values = g.values ∙ h.values }

-- k is still to come
abbrev pub Turning : Log → ℕ → Rows → Log → Recorder → Type 0
Turning l n before k r = Going l n before k r.count (rows_of r)

module _ {l : Log} {n : ℕ} {before : Rows} (now : Recorder) where
  -- a read of word i is to come, and then what `go` says
  pub may_read : {come : List ℕ → Log} {i : ℕ} {go : ℕ → List ℕ → Log} → ((words : List ℕ) → come words ≡ reads i go words) →
      Turning l n before (come now.words.now) now → 0 < length now.words.now → Room (now.count + 1) (rows_of now)
  may_read {come} {i} {go} is g h = by now.words.now g h
    where
      by : (words : List ℕ) → Turning l n before (come words) now → 0 < length words → Room (now.count + 1) (rows_of now)
      by [] g h = absurd (omega arith)
      by (x ∷ words) g h = for_next g (is (x ∷ words))

module _ {l : Log} {n : ℕ} {before : Rows} (now next : Recorder) where
  pub has_put : {k rest : Log} {a : Access} → Turning l n before k now → k ≡ after a rest → Puts now a next → Turning l n before rest next
  has_put g e h = rw h.count (goes_on g e h.rows)

  pub has_read : {come : List ℕ → Log} {i : ℕ} {go : ℕ → List ℕ → Log} → ((words : List ℕ) → come words ≡ reads i go words) →
      Turning l n before (come now.words.now) now → {x : ℕ} → HasRead now i next x → Turning l n before (go x next.words.now) next
  has_read {come} is g {x} h = has_put g (ap come h.words ∙ is (x ∷ next.words.now)) h.puts

  pub has_starved : {come : List ℕ → Log} {i : ℕ} {go : ℕ → List ℕ → Log} → ((words : List ℕ) → come words ≡ reads i go words) →
      Turning l n before (come now.words.now) now → {e : End} → HasStarved now next e → Moves l n before (ends (ending e)) next.count (rows_of next)
  has_starved {come} is g h = rw (h.end, h.count, h.rows) (arrives g (ap come h.words ∙ is []))

-- a part after what is recorded already
pub goes_then : {l k : Log} (first now next : Recorder) (rest : List ℕ → Log) → Turns l first k now → (r : Result (Unit {0}) End) →
    Goes k now rest next r → Goes l first rest next r
goes_then first now next rest moves (Ok t) h = then moves h
goes_then first now next rest moves (Err e) h = then moves h
