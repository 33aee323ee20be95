-- What is said at the end is settled by the bytes alone, however the reads cut them into blocks.
use mathlib.Core.Path.{◌≡◌, refl, sym, ap, ◌∙◌, subst}
use mathlib.Core.Bool.{Bool, true, false}
use mathlib.Core.List.{List, [], ◌∷◌, ◌++◌}
use Prim.Native.Nat.{ℕ, ◌+◌, ◌≤◌, ◌<◌}
use native.Mathlib.Omega.{arith}
use borrow.Author.Tests.{ne_eqb}
use lib.ListN.{length, take, drop, length-append}
use lib.Seq.{length-take-le, take-add}
use Rattle.std.specs.Prelude.{Result, Ok, Err}
use Rattle.words.proofs.Choosing.{never}
use Rattle.trace.specs.declared.Fed.{Fed}
use Rattle.trace.specs.declared.Trace.{Trace}
use Rattle.trace.specs.Numbers.{Sample, firsts, seconds, Numbers, nothing}
use Rattle.trace.specs.Parts.{MOST, Feeds}
use Rattle.trace.proofs.Laws.{length_firsts, only, of_none}
use Rattle.trace.proofs.Cutting.{grown}
use Rattle.replay.specs.Samples.{samples_of, left_of}
use Rattle.replay.specs.Reading.{Reads, Ends, Told}
use Rattle.replay.specs.Ending.{so_far, at_end}
use Rattle.replay.specs.Turns.{Advances}
use Rattle.replay.specs.declared.held.Held.{Held}
use Rattle.replay.specs.declared.report.Fault.{Fault}
use Rattle.replay.proofs.Sampling.{measured, samples_on, left_on}

in_reach : (t : List Sample) {s : Trace} {r : Fed} → Feeds s (firsts t) (seconds t) r → r.refusal ≡ 0 → s.samples + length t ≤ MOST
in_reach t (Feeds.bad_rows n) e = absurd (omega arith)
in_reach t (Feeds.trace_long n h) e = absurd (omega arith)
in_reach t (Feeds.goes_on n h o) e = omega (arith, length_firsts t)

-- what was held with a block more
module _ (bytes block : List ℕ) {held : List ℕ} (left : held ≡ left_of bytes) where
  samples_after : samples_of bytes ++ samples_of (held ++ block) ≡ samples_of (bytes ++ block)
  samples_after = ap (λ (l : List ℕ). samples_of bytes ++ samples_of (l ++ block)) left ∙ sym (samples_on bytes block)

  left_after : left_of (held ++ block) ≡ left_of (bytes ++ block)
  left_after = ap (λ (l : List ℕ). left_of (l ++ block)) left ∙ sym (left_on bytes block)

pub settled : {bytes held : List ℕ} {s : Trace} → Reads bytes s held → Numbers (samples_of bytes) s × (held ≡ left_of bytes)
settled Reads.start = (of_none, refl)
settled (Reads.more {bytes} {held} {s} {r} block before feeds) =
    let now = settled before in
    let t = samples_of bytes in
    let p = samples_of (held ++ block) in (
      subst (λ (u : List Sample). Numbers u r) (samples_after bytes block now.1)
          (grown t p (omega (arith, in_reach p feeds refl, now.0.samples, length-append t p)) now.0 feeds).1,
      left_after bytes block now.1,
    )

-- so one state, however they were cut
pub one_state : {bytes held rest : List ℕ} {s r : Trace} → Reads bytes s held → Reads bytes r rest → (s ≡ r) × (held ≡ rest)
one_state a b = (only (settled a).0 (settled b).0, (settled a).1 ∙ sym (settled b).1)

-- and none of a trace that is too long
pub within_limit : {bytes held : List ℕ} {s : Trace} → Reads bytes s held → length (samples_of bytes) ≤ MOST
within_limit Reads.start = omega arith
within_limit (Reads.more {bytes} {held} block before feeds) =
    let now = settled before in
    let p = samples_of (held ++ block) in
    omega (arith, in_reach p feeds refl, now.0.samples, length-append (samples_of bytes) p, ap length (samples_after bytes block now.1))

-- one thing is said of some bytes
pub unique : {bytes : List ℕ} {failed : Bool} {o p : Result Trace Fault} → Ends bytes failed o → Ends bytes failed p → o ≡ p
unique (Ends.whole h e n) (Ends.whole k f m) = ap Ok (only n m)
unique (Ends.whole h e n) (Ends.unfinished k f) = absurd (omega arith)
unique (Ends.whole h e n) (Ends.too_long k) = absurd (omega arith)
unique (Ends.unfinished h e) (Ends.whole k f m) = absurd (omega arith)
unique (Ends.unfinished h e) (Ends.unfinished k f) = refl
unique (Ends.unfinished h e) (Ends.too_long k) = absurd (omega arith)
unique (Ends.too_long h) (Ends.whole k f m) = absurd (omega arith)
unique (Ends.too_long h) (Ends.unfinished k f) = absurd (omega arith)
unique (Ends.too_long h) (Ends.too_long k) = refl
unique Ends.unreadable Ends.unreadable = refl

-- how many bytes were read
counted : {bytes held : List ℕ} {s : Trace} → Reads bytes s held → so_far s (length held) ≡ length bytes
counted {bytes} reads = let now = settled reads in omega (arith, now.0.samples, ap length now.1, (measured bytes).0)

-- what the loop knows between two reads
pub record Reading (input : List ℕ) (h : Held) : Type 0 where
  pub bytes : List ℕ
  pub reads : Reads bytes h.trace (take h.count input)

pub begun : (input : List ℕ) {h : Held} → h.trace ≡ nothing → h.count ≡ 0 → Reading input h
begun input {h} e n =
    record {
      bytes = [];
      reads = subst (λ (held : List ℕ). Reads [] h.trace held) (sym (ap (λ (n : ℕ). take n input) n))
          (subst (λ (s : Trace). Reads [] s []) (sym e) Reads.start);
    }

-- what is said at an end, by its kind
module _ {bytes : List ℕ} {s : Trace} where
  at_the_end : (held : List ℕ) → Reads bytes s held → Told (at_end s (length held))
  at_the_end [] reads =
      let now = settled reads in
      record { bytes = bytes; failed = false; ends = Ends.whole (within_limit reads) (sym (ap length now.1)) now.0 }
  at_the_end (x ∷ held) reads =
      rw (ne_eqb (length (x ∷ held)) 0 (omega arith))
      (subst (λ (n : ℕ). Told (Err (Fault.Unfinished n))) (sym (counted reads))
      (record { bytes = bytes; failed = false; ends = Ends.unfinished (within_limit reads) (omega (arith, ap length (settled reads).1)) }))

  beyond : {held : List ℕ} (block : List ℕ) → Reads bytes s held → MOST < s.samples + length (samples_of (held ++ block))
      → Told (Err Fault.TooLong)
  beyond {held} block reads m =
      let now = settled reads in
      let p = samples_of (held ++ block) in
      let more : MOST < length (samples_of (bytes ++ block)) =
      omega (arith, now.0.samples, ap length (samples_after bytes block now.1), length-append (samples_of bytes) p) in
      record { bytes = bytes ++ block; failed = false; ends = Ends.too_long more }

module _ (input : List ℕ) {h : Held} (g : Reading input h) where
  -- a read that gives nothing, and one that fails
  module _ (within : h.count ≤ length input) where
    pub ended : Told (at_end h.trace h.count)
    ended = subst (λ (n : ℕ). Told (at_end h.trace n)) (length-take-le h.count input within) (at_the_end (take h.count input) g.reads)

    pub unread : Told (Err (Fault.Unreadable (so_far h.trace h.count)))
    unread =
        subst (λ (n : ℕ). Told (Err (Fault.Unreadable n)))
        (sym (counted g.reads) ∙ ap (so_far h.trace) (length-take-le h.count input within))
        (record { bytes = g.bytes; failed = true; ends = Ends.unreadable })

  -- and one that gives n bytes, behind what was held
  module _ (read : List ℕ) (n : ℕ) (front : take h.count read ≡ take h.count input) where
    abbrev block : List ℕ
    block = take n (drop h.count read)

    behind : take (h.count + n) read ≡ take h.count input ++ block
    behind = take-add h.count n read ∙ ap (λ (l : List ℕ). l ++ block) front

    go_on : {after : List ℕ} {r : Result Held Fault} {next : Held} → Advances h.trace (take h.count input ++ block) after r → r ≡ Ok next → Reading after next
    go_on {after} {next = next} (Advances.goes_on {h} feeds e count_is) q =
        let same : h ≡ next = cc in
        subst (Reading after) same
        (record {
          bytes = g.bytes ++ block;
          reads = subst (Reads (g.bytes ++ block) h.trace) (sym e) (Reads.more block g.reads feeds);
        })
    go_on (Advances.too_long m) q = never (cc)

    stop : {after : List ℕ} {r : Result Held Fault} {fault : Fault} → Advances h.trace (take h.count input ++ block) after r → r ≡ Err fault → Told (Err fault)
    stop (Advances.goes_on feeds e count_is) q = never (cc)
    stop (Advances.too_long m) q = subst Told (cc) (beyond block g.reads m)

    module _ {after : List ℕ} {r : Result Held Fault} (a : Advances h.trace (take (h.count + n) read) after r) where
      a' : Advances h.trace (take h.count input ++ block) after r
      a' = subst (λ (bytes : List ℕ). Advances h.trace bytes after r) behind a

      pub one_more : {next : Held} → r ≡ Ok next → Reading after next
      one_more = go_on a'

      pub stopped : {fault : Fault} → r ≡ Err fault → Told (Err fault)
      stopped = stop a'
