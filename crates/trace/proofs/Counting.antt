-- Steps and ticks. Assumes nothing.
use Rattle.std.proofs.Common.{◌≡◌, ℕ, zero, suc, ◌+◌, ◌-◌, ◌%◌, ◌<◌, ◌≤◌, List, [], ◌∷◌, length, get_or, take, sym, ap, ◌∙◌, le_of_suc-le-suc, not-suc-le-zero, add_assoc, arith}
use Rattle.trace.specs.Counts.{RANGE, step, ticks}

pub step_below : (a b : ℕ) → step a b < RANGE
unfolding step
step_below a b = omega arith

pub step_self : (a : ℕ) → step a a ≡ 0
unfolding step
step_self a = omega arith

-- counts of 16 bits of real counts
pub true_step : {a b : ℕ} → a ≤ b → b < a + RANGE → step (a % RANGE) (b % RANGE) ≡ b - a
unfolding step
true_step h k = omega arith

-- of one count more
pub ticks_more : (counts : List ℕ) (i : ℕ) → suc i < length counts
    → ticks (take (suc (suc i)) counts) ≡ ticks (take (suc i) counts) + step (get_or counts i 0) (get_or counts (suc i) 0)
ticks_more [] i h = absurd (not-suc-le-zero h)
ticks_more (a ∷ []) i h = absurd (omega arith)
ticks_more (a ∷ b ∷ counts) zero h = omega arith
ticks_more (a ∷ b ∷ counts) (suc i) h =
    ap (λ (n : ℕ). step a b + n) (ticks_more (b ∷ counts) i (le_of_suc-le-suc h))
    ∙ sym (add_assoc (step a b) (ticks (take (suc i) (b ∷ counts))) (step (get_or (b ∷ counts) i 0) (get_or counts i 0)))
