-- Going through a block, sample by sample: `Written` is what holds where the bytes of `rest` are left.
use mathlib.Core.Path.{◌≡◌, refl, sym, ap, ◌∙◌, subst₂}
use mathlib.Core.Bool.{true≢false}
use mathlib.Core.List.{List, [], ◌∷◌, ◌++◌, append_assoc, append-nil}
use Prim.Native.Nat.{ℕ, ◌+◌, ◌*◌, ◌/◌, ◌<◌, ◌≤◌}
use native.Mathlib.Omega.{arith}
use lib.ListN.{length, get_or, set, take, length-append, length-set}
use Rattle.std.proofs.lemmas.Grind.{take-set_at}
use lib.Seq.{length-take-le}
use Rattle.std.specs.Prelude.{Option, Some, None, Result, IsSomeAnd, IsNone}
use Rattle.bounds.specs.Within.{Within}
use Rattle.bounds.proofs.Bound.{both}
use Rattle.trace.specs.declared.Trace.{Trace}
use Rattle.trace.specs.declared.TraceError.{TraceError}
use Rattle.trace.specs.Numbers.{Sample, firsts, seconds}
use Rattle.trace.specs.Parts.{Feeds, fed_of}
use Rattle.trace.proofs.Laws.{one_result, length_firsts}
use Rattle.replay.specs.Samples.{count, samples_of}
use Rattle.replay.specs.Block.{BLOCK, Takes}
use Rattle.replay.specs.declared.block.Taken.{Taken}
use Rattle.replay.proofs.Sampling.{measured, how_many}

pub record Split (block first second rest : List ℕ) : Type 0 where
  pub firsts : firsts (samples_of block) ≡ first ++ firsts (samples_of rest)
  pub seconds : seconds (samples_of block) ≡ second ++ seconds (samples_of rest)

abbrev sample_of : List ℕ → Sample
sample_of four = record { first = count (get_or four 0 0) (get_or four 1 0); second = count (get_or four 2 0) (get_or four 3 0) }

in_front : (four rest : List ℕ) → length four ≡ 4 → samples_of (four ++ rest) ≡ sample_of four ∷ samples_of rest
in_front [] rest e = absurd (omega arith)
in_front (a ∷ []) rest e = absurd (omega arith)
in_front (a ∷ b ∷ []) rest e = absurd (omega arith)
in_front (a ∷ b ∷ c ∷ []) rest e = absurd (omega arith)
in_front (a ∷ b ∷ c ∷ d ∷ []) rest e = refl
in_front (a ∷ b ∷ c ∷ d ∷ f ∷ four) rest e = absurd (omega arith)

too_few : (rest : List ℕ) → length rest < 4 → samples_of rest ≡ []
too_few [] h = refl
too_few (a ∷ []) h = refl
too_few (a ∷ b ∷ []) h = refl
too_few (a ∷ b ∷ c ∷ []) h = refl
too_few (a ∷ b ∷ c ∷ d ∷ rest) h = absurd (omega arith)

module _ {block first second rest : List ℕ} (s : Split block first second rest) where
  module _ (four after : List ℕ) (e : rest ≡ four ++ after) (l : length four ≡ 4) where
    room : length block ≤ BLOCK → length first < 16_384
    room h =
        let left : 4 ≤ length rest = omega (arith, ap length e, length-append four after) in
        omega (arith, ap length s.firsts, length-append first (firsts (samples_of rest)), length_firsts (samples_of block), length_firsts (samples_of rest), measured block, measured rest)

    another : {x y : ℕ} {first' second' : List ℕ} → x ≡ count (get_or four 0 0) (get_or four 1 0) → y ≡ count (get_or four 2 0) (get_or four 3 0)
        → first' ≡ first ++ (x ∷ []) → second' ≡ second ++ (y ∷ []) → Split block first' second' after
    another {x} {y} x_is y_is first_is second_is =
        let whole = ap samples_of e ∙ in_front four after l in
        record {
          firsts =
              s.firsts
              ∙ ap (λ (t : List Sample). first ++ firsts t) whole
              ∙ ap (λ (n : ℕ). first ++ n ∷ firsts (samples_of after)) (sym x_is)
              ∙ sym (append_assoc first (x ∷ []) (firsts (samples_of after)))
              ∙ ap (λ (row : List ℕ). row ++ firsts (samples_of after)) (sym first_is);
          seconds =
              s.seconds
              ∙ ap (λ (t : List Sample). second ++ seconds t) whole
              ∙ ap (λ (n : ℕ). second ++ n ∷ seconds (samples_of after)) (sym y_is)
              ∙ sym (append_assoc second (y ∷ []) (seconds (samples_of after)))
              ∙ ap (λ (row : List ℕ). row ++ seconds (samples_of after)) (sym second_is);
        }

  all : length rest < 4 → (first ≡ firsts (samples_of block)) × (second ≡ seconds (samples_of block))
  all h = (
    sym (s.firsts ∙ ap (λ (t : List Sample). first ++ firsts t) (too_few rest h) ∙ append-nil first),
    sym (s.seconds ∙ ap (λ (t : List Sample). second ++ seconds t) (too_few rest h) ∙ append-nil second),
  )

-- n counts stand at the front of both rows
pub record Written (block first second rest : List ℕ) (n : ℕ) : Type 0 where
  pub first_long : length first ≡ 16_384
  pub second_long : length second ≡ 16_384
  pub within : n ≤ 16_384
  pub split : Split block (take n first) (take n second) rest

module _ {block first second rest : List ℕ} {n : ℕ} (w : Written block first second rest n) where
  pub one_more : (four after : List ℕ) {i m x y : ℕ} → length block ≤ BLOCK → rest ≡ four ++ after → length four ≡ 4 → i ≡ n → m ≡ n + 1
      → x ≡ count (get_or four 0 0) (get_or four 1 0) → y ≡ count (get_or four 2 0) (get_or four 3 0) → Written block (set first i x) (set second i y) after m
  one_more four after {i} {m} {x} {y} small e l i_is m_is x_is y_is =
      let more : n < 16_384 = omega (arith, room w.split four after e l small, length-take-le n first (omega (arith, w.first_long, w.within))) in
      record {
        first_long = length-set first i x ∙ w.first_long;
        second_long = length-set second i y ∙ w.second_long;
        within = omega arith;
        split = another w.split four after e l x_is y_is
            (take-set_at first i m x (omega arith) (omega (arith, w.first_long)) ∙ ap (λ (k : ℕ). take k first ++ (x ∷ [])) i_is)
            (take-set_at second i m y (omega arith) (omega (arith, w.second_long)) ∙ ap (λ (k : ℕ). take k second ++ (y ∷ [])) i_is);
      }

  -- the rows' fronts are fed
  pub taken : {t : Trace} {m : ℕ} {r : Result Trace TraceError} → length rest < 4 → m ≡ length block / 4
      → Feeds t (take m first) (take m second) (fed_of t r) → Takes t block (record { fed = r; used = m * 4 })
  taken {t} {m} {r} h m_is g =
      let a = all w.split h in
      let same : m ≡ n = omega (arith, ap length a.0, length_firsts (samples_of block), how_many block, length-take-le n first (omega (arith, w.first_long, w.within))) in
      record {
        feeds = subst₂ (λ (xs ys : List ℕ). Feeds t xs ys (fed_of t r))
            (ap (λ (k : ℕ). take k first) same ∙ a.0)
            (ap (λ (k : ℕ). take k second) same ∙ a.1)
            g;
        used = omega (arith, how_many block, measured block);
      }

-- a block has one outcome
module _ (s : Trace) (bytes : List ℕ) where
  same : {r q : Taken} → Takes s bytes r → Takes s bytes q → r ≡ q
  same {r} {q} x y =
      let n : r.used ≡ q.used = omega (arith, x.used, y.used) in
      let f = one_result x.feeds y.feeds in
      λ i. record { fed = f i; used = n i }

  same_if_some : (r q : Option Taken) → IsSomeAnd r (Takes s bytes) → IsSomeAnd q (Takes s bytes) → r ≡ q
  same_if_some None q x y = absurd x
  same_if_some (Some r) None x y = absurd y
  same_if_some (Some r) (Some q) x y = ap Some (same x y)

  no_other : (r q : Option Taken) → IsNone r → IsNone q → r ≡ q
  no_other None None e f = refl
  no_other None (Some q) e f = absurd (true≢false f)
  no_other (Some r) q e f = absurd (true≢false e)

  pub one_block : {r q : Option Taken} → Within (length bytes) BLOCK (IsSomeAnd r (Takes s bytes)) (IsNone r)
      → Within (length bytes) BLOCK (IsSomeAnd q (Takes s bytes)) (IsNone q) → r ≡ q
  one_block {r} {q} = both (same_if_some r q) (no_other r q)
