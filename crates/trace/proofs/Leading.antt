-- The greatest lead: one sample more, and samples after samples. Assumes nothing.
use Rattle.std.proofs.Common.{◌≡◌, ℕ, suc, ◌+◌, ◌-◌, ◌<◌, ◌≤◌, sym, refl, ap, subst, arith, le-ltb, lt-ltb}
use native.Mathlib.Decide.{dec_le}
use Rattle.trace.specs.declared.Lead.{Lead}
use Rattle.trace.specs.Leads.{lead, Greatest, kept, passed}
use Rattle.trace.specs.Sampled.{raised}

pub none_yet : {ahead : ℕ → ℕ} {from : ℕ} {before : Lead} → Greatest ahead from 0 before before
none_yet = kept (λ k h. absurd (omega arith))

raised_to : (l : Lead) {ticks : ℕ} (at : ℕ) → l.ticks < ticks → lead ticks at ≡ raised l ticks at
raised_to l {ticks} at h = simp (lt-ltb l.ticks ticks h)

not_raised : (l : Lead) {ticks : ℕ} (at : ℕ) → ticks ≤ l.ticks → l ≡ raised l ticks at
not_raised l {ticks} at h = simp (le-ltb l.ticks ticks h)

-- j is one of n, or n itself
up_to : (P : ℕ → Type 0) {j n : ℕ} → j < suc n → (j < n → P j) → P n → P j
up_to P {j} {n} h before there =
    elim (dec_le n j) [
      | yes h' ↦ subst P (let e : n ≡ j = omega arith in e) there
      | no h' ↦ before (omega arith)
    ]

module _ {ahead : ℕ → ℕ} {from n : ℕ} {before : Lead} where
  -- the next sample, where it is further ahead than all before it, and where it is not
  further : {l : Lead} → Greatest ahead from n before l → l.ticks < ahead n → Greatest ahead from (suc n) before (lead (ahead n) (from + n))
  further (kept below) h =
      passed n (omega arith) h (λ j i. omega (arith, below j i)) (λ j i. up_to (λ j. ahead j ≤ ahead n) i (λ i'. omega (arith, below j i')) (omega arith))
  further (passed k k_in above first most) h =
      passed n (omega arith) (omega arith) (λ j i. omega (arith, most j i)) (λ j i. up_to (λ j. ahead j ≤ ahead n) i (λ i'. omega (arith, most j i')) (omega arith))

  no_further : {l : Lead} → Greatest ahead from n before l → ahead n ≤ l.ticks → Greatest ahead from (suc n) before l
  no_further (kept below) h = kept (λ j i. up_to (λ j. ahead j ≤ before.ticks) i (below j) h)
  no_further (passed k k_in above first most) h =
      passed k (omega arith) above first (λ j i. up_to (λ j. ahead j ≤ ahead k) i (most j) h)

  pub next : {l : Lead} → Greatest ahead from n before l → Greatest ahead from (suc n) before (raised l (ahead n) (from + n))
  next {l} g =
      elim (dec_le (ahead n) l.ticks) [
        | yes h ↦ subst (Greatest ahead from (suc n) before) (not_raised l (from + n) h) (no_further g h)
        | no h ↦ subst (Greatest ahead from (suc n) before) (raised_to l (from + n) (omega arith)) (further g (omega arith))
      ]

-- two greatest leads of the same samples are one
pub same_lead : {ahead : ℕ → ℕ} {from n : ℕ} {before a b : Lead} → Greatest ahead from n before a → Greatest ahead from n before b → a ≡ b
same_lead (kept below) (kept below') = refl
same_lead (kept below) (passed k k_in above first most) = absurd (omega (arith, below k k_in))
same_lead (passed k k_in above first most) (kept below) = absurd (omega (arith, below k k_in))
same_lead {ahead} {from} (passed k k_in above first most) (passed l l_in above' first' most') =
    ap (λ (m : ℕ). lead (ahead m) (from + m))
    (elim (dec_le k l) [
      | yes h ↦ elim (dec_le l k) [ yes h' ↦ omega arith | no h' ↦ absurd (omega (arith, first' k (omega arith), most l l_in)) ]
      | no h ↦ absurd (omega (arith, first l (omega arith), most' k k_in))
    ])

-- ---- samples after samples

-- k is one of the first n, or of the m after them
of_both : (P : ℕ → Type 0) {k n m : ℕ} → k < n + m → (k < n → P k) → ((j : ℕ) → j < m → P (n + j)) → P k
of_both P {k} {n} {m} h early late =
    elim (dec_le n k) [
      | yes l ↦ subst P (let e : n + (k - n) ≡ k = omega arith in e) (late (k - n) (omega arith))
      | no l ↦ early (omega arith)
    ]

pub of_same : {f h : ℕ → ℕ} {from n : ℕ} {before a : Lead} → ((k : ℕ) → k < n → f k ≡ h k) → Greatest f from n before a → Greatest h from n before a
of_same same (kept below) = kept (λ k i. omega (arith, below k i, same k i))
of_same {f} {h} {from} {n} {before} same (passed k k_in above first most) =
    subst (Greatest h from n before) (ap (λ (t : ℕ). lead t (from + k)) (sym (same k k_in)))
    (passed k k_in (omega (arith, same k k_in))
    (λ j i. omega (arith, first j i, same k k_in, same j (omega arith)))
    (λ j i. omega (arith, most j i, same k k_in, same j i)))

module _ (h : ℕ → ℕ) {n m : ℕ} {none : Lead} where
  -- where one of the later samples is further ahead than all before it
  later_one : (j : ℕ) → j < m → none.ticks < h (n + j) → ((i : ℕ) → i < n → h i < h (n + j)) → ((i : ℕ) → i < j → h (n + i) < h (n + j))
      → ((i : ℕ) → i < m → h (n + i) ≤ h (n + j)) → Greatest h 0 (n + m) none (lead (h (n + j)) (n + j))
  later_one j j_in above early first most =
      subst (λ (at : ℕ). Greatest h 0 (n + m) none (lead (h (n + j)) at)) (let e : 0 + (n + j) ≡ n + j = omega arith in e)
      (passed (n + j) (omega arith) above
      (λ i i_in. of_both (λ (i : ℕ). h i < h (n + j)) i_in (early i) first)
      (λ i i_in. of_both (λ (i : ℕ). h i ≤ h (n + j)) i_in (λ l. omega (arith, early i l)) most))

  pub joined : {a b : Lead} → Greatest h 0 n none a → Greatest (λ j. h (n + j)) n m a b → Greatest h 0 (n + m) none b
  joined (kept below) (kept below') = kept (λ k i. of_both (λ (k : ℕ). h k ≤ none.ticks) i (below k) below')
  joined (passed k k_in above first most) (kept below') = passed k (omega arith) above first (λ j i. of_both (λ (j : ℕ). h j ≤ h k) i (most j) below')
  joined (kept below) (passed j j_in above' first' most') = later_one j j_in above' (λ i i_in. omega (arith, below i i_in)) first' most'
  joined (passed k k_in above first most) (passed j j_in above' first' most') =
      later_one j j_in (omega arith) (λ i i_in. omega (arith, most i i_in)) first' most'
