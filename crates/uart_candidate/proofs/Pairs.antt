-- What one baud divider gives, case by case; and that it is one thing.
use mathlib.Core.Path.{◌≡◌, refl, sym, ◌∙◌, ap, ap₂, subst, subst⁻¹}
use Prim.Native.Nat.{ℕ, ◌<◌, ◌≤◌}
use native.Mathlib.Omega.{arith}
use native.Mathlib.Decide.{dec_le}
use lib.Dec.{T}
use mathlib.Core.Bool.{Bool, true, false, true≢false}
use mathlib.Core.Logic.{◌⊎◌, inl, inr}
use lib.Ieee.{Float, lt}
use lib.Ieee.Bits.{is_true}
use Rattle.uart_candidate.specs.Range.{FIRST, LAST}
use Rattle.uart_candidate.specs.Candidate.{clock_divisor, error_fraction, Candidate, Viable, MAX_BAUDERROR_RATE, Outcome, pair, skipped}
use Rattle.uart_candidate.specs.declared.BaudDivisors.{BaudDivisors}
use Rattle.std.specs.Prelude.{Option, Some, None, MatchOption}
use Rattle.std.specs.Bool.{then_some}

pub cd_at : {reference target : Float} {p : BaudDivisors} → Candidate reference target p → (bdiv : ℕ) → p.bdiv ≡ bdiv → p.cd ≡ clock_divisor reference target bdiv
cd_at {reference} {target} {p} h bdiv e = subst (λ (b : ℕ). p.cd ≡ clock_divisor reference target b) e h.cd_is

-- what a try gives, case by case: a bdiv out of range is skipped, and so is one whose clock divisor is above 65,535 or 0
pub untried : (reference target : Float) (bdiv : ℕ) → (bdiv < FIRST) ⊎ (LAST < bdiv) → Outcome (Candidate reference target) bdiv None
untried reference target bdiv (inl l) = skipped (λ p h e. omega (arith, h.in_range.from))
untried reference target bdiv (inr l) = skipped (λ p h e. omega (arith, h.in_range.to))

pub undivided : (reference target : Float) (bdiv : ℕ) → (clock_divisor reference target bdiv < 1) ⊎ (65535 < clock_divisor reference target bdiv)
    → Outcome (Candidate reference target) bdiv None
undivided reference target bdiv (inl l) = skipped (λ p h e. let c = cd_at h bdiv e in omega (arith, h.not_zero))
undivided reference target bdiv (inr l) = skipped (λ p h e. let c = cd_at h bdiv e in omega (arith, h.not_above))

pub tried : (reference target : Float) (bdiv cd : ℕ) (error : Float) → FIRST ≤ bdiv → bdiv ≤ LAST → cd ≡ clock_divisor reference target bdiv
    → 1 ≤ cd → cd ≤ 65535 → error ≡ error_fraction reference target cd bdiv
    → Outcome (Candidate reference target) bdiv (Some record { cd = cd; bdiv = bdiv; error = error })
tried reference target bdiv cd error a b is c d e =
    pair record { in_range = record { from = a; to = b }; cd_is = is; not_zero = c; not_above = d; error_is = e } refl

pub ruleset tries = (untried, undivided, tried)

same : (p q : BaudDivisors) → p.cd ≡ q.cd → p.bdiv ≡ q.bdiv → p.error ≡ q.error → p ≡ q
same p q a b c = λ i. record { cd = a i; bdiv = b i; error = c i }

-- a baud divider has one candidate at most
pub one_each : {reference target : Float} {p q : BaudDivisors} → Candidate reference target p → Candidate reference target q → p.bdiv ≡ q.bdiv → p ≡ q
one_each {reference} {target} {p} {q} h k e =
    let cd : p.cd ≡ q.cd = cd_at h q.bdiv e ∙ sym k.cd_is in
    same p q cd e (h.error_is ∙ ap₂ (error_fraction reference target) cd e ∙ sym k.error_is)

pub too_far : {reference target : Float} {p q : BaudDivisors} → Viable reference target p → Candidate reference target q → p.bdiv ≡ q.bdiv → lt q.error MAX_BAUDERROR_RATE ≡ false → ⊥
too_far {p} {q} h k e f = true≢false (sym (is_true (lt p.error MAX_BAUDERROR_RATE) h.small) ∙ ap (λ (s : BaudDivisors). lt s.error MAX_BAUDERROR_RATE) (one_each h.candidate k e) ∙ f)

-- ---- one outcome for each baud divider
module _ (Rule : BaudDivisors → Type 0) (once : (p q : BaudDivisors) → Rule p → Rule q → p.bdiv ≡ q.bdiv → p ≡ q) where
  one_outcome : {bdiv : ℕ} {s t : Option BaudDivisors} → Outcome Rule bdiv s → Outcome Rule bdiv t → s ≡ t
  one_outcome (pair {p} r e) (pair {p = q} l f) = ap Some (once p q r l (e ∙ sym f))
  one_outcome (pair {p} r e) (skipped n) = absurd (n p r e)
  one_outcome (skipped n) (pair {p} r e) = absurd (n p r e)
  one_outcome (skipped n) (skipped m) = refl

pub candidate_unique : (reference target : Float) {bdiv : ℕ} {s t : Option BaudDivisors} → Outcome (Candidate reference target) bdiv s → Outcome (Candidate reference target) bdiv t → s ≡ t
candidate_unique reference target = one_outcome (Candidate reference target) (λ p q h k e. one_each h k e)

pub viable_unique : (reference target : Float) {bdiv : ℕ} {s t : Option BaudDivisors} → Outcome (Viable reference target) bdiv s → Outcome (Viable reference target) bdiv t → s ≡ t
viable_unique reference target = one_outcome (Viable reference target) (λ p q h k e. one_each h.candidate k.candidate e)

-- ---- of every baud divider it can be said whether it has a viable pair
module _ (reference target : Float) (bdiv : ℕ) where
  abbrev the : BaudDivisors
  the = record { cd = clock_divisor reference target bdiv; bdiv = bdiv; error = error_fraction reference target (clock_divisor reference target bdiv) bdiv }

  candidate_the : FIRST ≤ bdiv → bdiv ≤ LAST → 1 ≤ the.cd → the.cd ≤ 65535 → Candidate reference target the
  candidate_the a b c d = record { in_range = record { from = a; to = b }; cd_is = refl; not_zero = c; not_above = d; error_is = refl }

  pub decided : (t : Option BaudDivisors) × Outcome (Viable reference target) bdiv t
  decided = go (dec_le FIRST bdiv) (dec_le bdiv LAST) (dec_le 1 the.cd) (dec_le the.cd 65535) (lt the.error MAX_BAUDERROR_RATE) refl
    where
      not_here : ((p : BaudDivisors) → Viable reference target p → p.bdiv ≡ bdiv → ⊥) → (t : Option BaudDivisors) × Outcome (Viable reference target) bdiv t
      not_here f = (None, skipped f)

      go : Dec (FIRST ≤ bdiv) → Dec (bdiv ≤ LAST) → Dec (1 ≤ the.cd) → Dec (the.cd ≤ 65535) → (b : Bool) → lt the.error MAX_BAUDERROR_RATE ≡ b → (t : Option BaudDivisors) × Outcome (Viable reference target) bdiv t
      go (no n) b c d l e = not_here (λ p h s. n (subst (λ (k : ℕ). FIRST ≤ k) s h.candidate.in_range.from))
      go (yes a) (no n) c d l e = not_here (λ p h s. n (subst (λ (k : ℕ). k ≤ LAST) s h.candidate.in_range.to))
      go (yes a) (yes b) (no n) d l e = not_here (λ p h s. n (subst (λ (k : ℕ). 1 ≤ k) (cd_at h.candidate bdiv s) h.candidate.not_zero))
      go (yes a) (yes b) (yes c) (no n) l e = not_here (λ p h s. n (subst (λ (k : ℕ). k ≤ 65535) (cd_at h.candidate bdiv s) h.candidate.not_above))
      go (yes a) (yes b) (yes c) (yes d) false e = not_here (λ p h s. too_far h (candidate_the a b c d) s e)
      go (yes a) (yes b) (yes c) (yes d) true e = (Some the, pair record { candidate = candidate_the a b c d; small = subst T (sym e) tt } refl)

-- ---- the viable pair is the candidate, filtered by its error
pub filtered : {reference target : Float} {bdiv : ℕ} {o r : Option BaudDivisors} (Tells : BaudDivisors → Bool → Type 0)
    → ((p : BaudDivisors) (b : Bool) → Tells p b → b ≡ lt p.error MAX_BAUDERROR_RATE)
    → MatchOption o (r ≡ None) (λ p. (b : Bool) × Tells p b × (r ≡ then_some b p))
    → Outcome (Candidate reference target) bdiv o → Outcome (Viable reference target) bdiv r
filtered {reference} {target} {bdiv} {o = None} tells test e (skipped n) = subst⁻¹ (Outcome (Viable reference target) bdiv) e (skipped (λ p h. n p h.candidate))
filtered {reference} {target} {bdiv} {o = Some p} tells test (b, t, e) (pair k s) = subst⁻¹ (Outcome (Viable reference target) bdiv) e (go b (sym (test p b t)))
  where
    go : (b : Bool) → lt p.error MAX_BAUDERROR_RATE ≡ b → Outcome (Viable reference target) bdiv (then_some b p)
    go true f = pair record { candidate = k; small = subst T (sym f) tt } s
    go false f = skipped (λ q h g. too_far h k (g ∙ sym s) f)
