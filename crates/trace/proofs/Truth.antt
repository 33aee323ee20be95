-- Where fewer than 65,536 ticks pass between neighbouring samples, the totals are the ticks that really passed. Assumes nothing.
use Rattle.std.proofs.Common.{◌≡◌, ℕ, ◌%◌, ◌≤◌, List, [], ◌∷◌, refl, ap, ◌∙◌, arith}
use Rattle.trace.specs.declared.Channel.{Channel}
use Rattle.trace.specs.declared.Trace.{Trace}
use Rattle.trace.specs.Counts.{RANGE, ticks, last_of}
use Rattle.trace.specs.Numbers.{Sample, firsts, seconds, Numbers}
use Rattle.trace.specs.Real.{Runs, passed_ticks, shown}
use Rattle.trace.proofs.Counting.{true_step}

-- the lowest 16 bits of each
abbrev low : List ℕ → List ℕ
low [] = []
low (a ∷ real) = a % RANGE ∷ low real

rises : (a : ℕ) (real : List ℕ) → Runs (a ∷ real) → a ≤ last_of a real
rises a [] h = omega arith
rises a (b ∷ real) h = omega (arith, h.0, rises b real h.2)

true_ticks : (real : List ℕ) → Runs real → ticks (low real) ≡ passed_ticks real
true_ticks [] h = refl
true_ticks (a ∷ []) h = omega arith
true_ticks (a ∷ b ∷ real) h =
    omega (arith, true_step h.0 h.1, true_ticks (b ∷ real) h.2, rises b real h.2, h.0)

firsts_shown : (real : List Sample) → firsts (shown real) ≡ low (firsts real)
firsts_shown [] = refl
firsts_shown (s ∷ real) = ap (λ (l : List ℕ). s.first % RANGE ∷ l) (firsts_shown real)

seconds_shown : (real : List Sample) → seconds (shown real) ≡ low (seconds real)
seconds_shown [] = refl
seconds_shown (s ∷ real) = ap (λ (l : List ℕ). s.second % RANGE ∷ l) (seconds_shown real)

-- Where each channel gains fewer than 65,536 ticks from sample to sample, the totals are the ticks that really passed.
pub truth : (real : List Sample) {s : Trace} → Runs (firsts real) → Runs (seconds real) → Numbers (shown real) s
    → (s.first.total ≡ passed_ticks (firsts real)) × (s.second.total ≡ passed_ticks (seconds real))
truth real h k now = (
  ap (λ (c : Channel). c.total) now.first ∙ ap ticks (firsts_shown real) ∙ true_ticks (firsts real) h,
  ap (λ (c : Channel). c.total) now.second ∙ ap ticks (seconds_shown real) ∙ true_ticks (seconds real) k,
)
