-- A block that is taken: what is left of a sample, or that there are too many.
use mathlib.Core.Path.{◌≡◌, refl, sym, ap, ◌∙◌, subst}
use mathlib.Core.List.{List, [], ◌∷◌}
use Prim.Native.Nat.{ℕ, suc, ◌+◌, ◌*◌, ◌-◌, ◌≤◌, ◌<◌}
use native.Mathlib.Omega.{arith}
use lib.ListN.{length, take, drop}
use lib.Seq.{length-take-le, take-add, take_at, drop_at}
use Rattle.std.specs.Prelude.{Option, Some, Result, Ok, Err, IsSomeAnd, IsNone}
use Rattle.bounds.specs.Within.{Within}
use Rattle.words.specs.Words.{part, Moved}
use Rattle.trace.specs.declared.Fed.{Fed}
use Rattle.trace.specs.declared.Trace.{Trace}
use Rattle.trace.specs.declared.TraceError.{TraceError}
use Rattle.trace.specs.declared.TraceError.TheVariants.{BadRows, TraceLong}
use Rattle.trace.specs.Numbers.{Sample, firsts, seconds}
use Rattle.trace.specs.Parts.{MOST, Feeds, fed_of}
use Rattle.trace.proofs.Laws.{length_firsts, length_seconds}
use Rattle.replay.specs.Samples.{samples_of, left_of}
use Rattle.replay.specs.Block.{BLOCK, Takes}
use Rattle.replay.specs.Turns.{Advances}
use Rattle.replay.specs.declared.block.Taken.{Taken}
use Rattle.replay.specs.declared.held.Held.{Held}
use Rattle.replay.specs.declared.report.Fault.TheVariants as Fault
use Rattle.replay.proofs.Sampling.{measured}

-- two rows of one trace are refused for its length only
refused : (t : List Sample) {s : Trace} {f : Fed} → Feeds s (firsts t) (seconds t) f → (f.refusal ≡ 0 → ⊥) → MOST < s.samples + length t
refused t (Feeds.bad_rows n) z = absurd (n (length_firsts t ∙ sym (length_seconds t)))
refused t (Feeds.trace_long e h) z = omega (arith, length_firsts t)
refused t (Feeds.goes_on e h o) z = absurd (z refl)

a_number : (s : Trace) (error : TraceError) → (fed_of s (Err error)).refusal ≡ 0 → ⊥
a_number s BadRows e = absurd (omega arith)
a_number s TraceLong e = absurd (omega arith)

-- what is left is the end of the block
four : (n : ℕ) → suc n * 4 ≡ suc (suc (suc (suc (n * 4))))
four n = omega arith

left_is : (b : List ℕ) → drop (length (samples_of b) * 4) b ≡ left_of b
left_is [] = refl
left_is (x ∷ []) = refl
left_is (x ∷ y ∷ []) = refl
left_is (x ∷ y ∷ z ∷ []) = refl
left_is (x ∷ y ∷ z ∷ w ∷ b) = ap (λ (n : ℕ). drop n (x ∷ y ∷ z ∷ w ∷ b)) (four (length (samples_of b))) ∙ left_is b

part_is : (input : List ℕ) (from to : ℕ) → from ≤ to → to ≤ length input → part input from to ≡ drop from (take to input)
part_is input from to h k =
    sym (ap (λ (n : ℕ). drop from (take n input)) whole
    ∙ ap (drop from) (take-add from (to - from) input)
    ∙ drop_at (take from input) (take (to - from) (drop from input)) from (length-take-le from input (omega arith)))
  where
    whole : to ≡ from + (to - from)
    whole = omega arith

module _ (s : Trace) (input : List ℕ) (filled : ℕ) {o : Option Taken} {r : Taken} (within : filled ≤ length input) (small : filled ≤ BLOCK)
    (w : Within (length (take filled input)) BLOCK (IsSomeAnd o (Takes s (take filled input))) (IsNone o)) (is : o ≡ Some r) where
  size : length (take filled input) ≡ filled
  size = length-take-le filled input within

  t : Takes s (take filled input) r
  t = subst (λ (o : Option Taken). IsSomeAnd o (Takes s (take filled input))) is (w.fits (omega (arith, size)))

  used : r.used ≡ length (samples_of (take filled input)) * 4
  used = omega (arith, t.used, (measured (take filled input)).0)

  left_part : part input r.used filled ≡ left_of (take filled input)
  left_part =
      part_is input r.used filled (omega (arith, t.used, size)) within
      ∙ ap (λ (n : ℕ). drop n (take filled input)) used
      ∙ left_is (take filled input)

  pub no_more : {error : TraceError} → r.fed ≡ Err error → {after : List ℕ} → Advances s (take filled input) after (Err Fault.TooLong)
  no_more {error} e =
      let bytes = take filled input in
      Advances.too_long (refused (samples_of bytes)
      (subst (λ (f : Result Trace TraceError). Feeds s (firsts (samples_of bytes)) (seconds (samples_of bytes)) (fed_of s f)) e t.feeds)
      (a_number s error))

  module _ {after : List ℕ} {left : ℕ} (moved : Moved input r.used filled after left) where
    pub few : left ≤ 3
    few = omega (arith, moved.0, ap length left_part, measured (take filled input))

    pub goes_on : {h : Held} → r.fed ≡ Ok h.trace → h.count ≡ left → Advances s (take filled input) after (Ok h)
    goes_on {h} e count_is =
        let bytes = take filled input in
        Advances.goes_on
        (subst (λ (f : Result Trace TraceError). Feeds s (firsts (samples_of bytes)) (seconds (samples_of bytes)) (fed_of s f)) e t.feeds)
        (ap (λ (n : ℕ). take n after) count_is ∙ ap (take left) moved.1 ∙ take_at (part input r.used filled) (drop left input) left (sym moved.0) ∙ left_part)
        (count_is ∙ moved.0 ∙ ap length left_part)
