-- The list of viable pairs from a baud divider k on: how it grows, what its first pair is, and that there is one such list only.
use mathlib.Core.Path.{◌≡◌, refl, sym, ◌∙◌, ap, ap₂, subst}
use mathlib.Core.Logic.{◌⊎◌, inl, inr, ⊎_elim}
use mathlib.Core.List.Memᴰ
use mathlib.Core.List.{List, [], ◌∷◌, Memᴰ}
use Prim.Native.Nat.{ℕ, zero, suc, ◌+◌, ◌<◌, ◌≤◌, zero-le}
use native.Mathlib.Nat.{le_trans, le_of_eq, eq-or-lt_of_le, zero-add, add-zero}
use native.Mathlib.Omega.{arith}
use lib.Ieee.{Float}
use lib.ListN.{length}
use mathlib.Core.Bool.{true, false}
use Rattle.std.specs.Prelude.{Option, Some, None, is_some, Ok, Err}
use Rattle.uart_candidate.specs.Range.{FIRST, LAST, COUNT}
use Rattle.uart_candidate.specs.Candidate.{Viable, Outcome, pair, skipped}
use Rattle.uart_candidate.specs.declared.BaudDivisors.{BaudDivisors}
use Rattle.uart_candidate.proofs.Pairs.{one_each, decided}
use Rattle.uart_list.specs.Listing.{Rising, end, next, Viables, Counts}
use Rattle.uart_list.specs.Room.{Roomy, too_few}
use Rattle.uart_list.specs.Room as Room

-- the viable pairs whose bdiv is k or more
pub record From (reference target : Float) (k : ℕ) (ps : List BaudDivisors) : Type 0 where
  pub sound : (p : BaudDivisors) → Memᴰ p ps → Viable reference target p
  pub complete : (p : BaudDivisors) → Viable reference target p → k ≤ p.bdiv → Memᴰ p ps
  pub rising : Rising k ps

-- ---- numbers
over : (a k : ℕ) → a ≤ LAST → LAST < k → k ≤ a → ⊥
over a k h l m = omega arith

above : (a k : ℕ) → (a ≡ k → ⊥) → k ≤ a → k + 1 ≤ a
above a k n h = omega arith

split : (a k : ℕ) → k ≤ a → (a ≡ k) ⊎ (k + 1 ≤ a)
split a k h = ⊎_elim (λ (e : k ≡ a). inl (sym e)) (λ (l : k < a). inr (omega arith)) (eq-or-lt_of_le h)

far : (a b c : ℕ) → a ≤ b → b + 1 ≤ c → a ≤ c
far a b c h g = omega arith

-- ---- rising
lower : {k : ℕ} {ps : List BaudDivisors} (j : ℕ) → j ≤ k → Rising k ps → Rising j ps
lower j h end = end
lower j h (next l r) = next (le_trans h l) r

-- no pair of the list is below the bound
least : {k : ℕ} (p : BaudDivisors) {ps : List BaudDivisors} → Rising k ps → Memᴰ p ps → k ≤ p.bdiv
least p end m = absurd (Memᴰ.not-nil m)
least p (next {k} {p = q} {ps} l r) m = ⊎_elim (λ (e : p ≡ q). subst (λ (x : BaudDivisors). k ≤ x.bdiv) (sym e) l) (λ (n : Memᴰ p ps). far k q.bdiv p.bdiv l (least p r n)) (Memᴰ.cases_cons m)

-- n viable pairs have been counted below k
pub record Tally (reference target : Float) (n k : ℕ) : Type 0 where
  pub full : (ps : List BaudDivisors) → From reference target k ps → (qs : List BaudDivisors) × From reference target FIRST qs × (length qs ≡ n + length ps)

-- ---- how a list grows towards its front
abbrev pub put : Option BaudDivisors → List BaudDivisors → List BaudDivisors
put (Some p) ps = p ∷ ps
put None ps = ps

longer : (t : Option BaudDivisors) (ps : List BaudDivisors) (n : ℕ) → length ps ≤ n → length (put t ps) ≤ suc n
longer None ps n h = omega arith
longer (Some p) ps n h = omega arith

module _ (reference target : Float) where
  abbrev Fit : BaudDivisors → Type 0
  Fit = Viable reference target

  abbrev F : ℕ → List BaudDivisors → Type 0
  F = From reference target

  pub beyond : {k : ℕ} → LAST < k → F k []
  beyond {k} l = record {
    sound = λ p m. absurd (Memᴰ.not-nil m);
    complete = λ p v h. absurd (over p.bdiv k v.candidate.in_range.to l h);
    rising = end;
  }

  pub before : {k : ℕ} {ps : List BaudDivisors} {t : Option BaudDivisors} → Outcome Fit k t → F (k + 1) ps → F k (put t ps)
  before {k} {ps} (skipped free) f = record {
    sound = f.sound;
    complete = λ p v h. f.complete p v (above p.bdiv k (free p v) h);
    rising = lower k (omega arith) f.rising;
  }
  before {k} {ps} (pair {p = q} r s) f = record {
    sound = λ p m. ⊎_elim (λ (e : p ≡ q). subst Fit (sym e) r) (f.sound p) (Memᴰ.cases_cons m);
    complete = λ p v h. ⊎_elim (λ (e : p.bdiv ≡ k). Memᴰ.head (one_each v.candidate r.candidate (e ∙ sym s))) (λ (l : k + 1 ≤ p.bdiv). Memᴰ.tail (f.complete p v l)) (split p.bdiv k h);
    rising = next (le_of_eq (sym s)) (subst (λ (j : ℕ). Rising (j + 1) ps) (sym s) f.rising);
  }

  -- ---- and how it is taken apart from its front
  at_front : {k : ℕ} {p : BaudDivisors} {ps : List BaudDivisors} → F k (p ∷ ps) → Fit p × (k ≤ p.bdiv)
  at_front {k} {p} f = (f.sound p (Memᴰ.head refl), least p f.rising (Memᴰ.head refl))

  tail : {k : ℕ} {p : BaudDivisors} {ps : List BaudDivisors} → F k (p ∷ ps) → F (p.bdiv + 1) ps
  tail {k} {p} {ps} f = record {
    sound = λ q m. f.sound q (Memᴰ.tail m);
    complete = λ q v h. ⊎_elim (λ (e : q ≡ p). absurd (self (ap (λ (x : BaudDivisors). x.bdiv) e) h)) (λ (m : Memᴰ q ps). m) (Memᴰ.cases_cons (f.complete q v (far k p.bdiv q.bdiv (at_front f).1 h)));
    rising = rest f.rising;
  }
    where
      self : {a b : ℕ} → a ≡ b → b + 1 ≤ a → ⊥
      self e h = omega arith

      rest : Rising k (p ∷ ps) → Rising (p.bdiv + 1) ps
      rest (next l r) = r

  pub taken : {k : ℕ} {p : BaudDivisors} (ps : List BaudDivisors) → F k ps → Fit p → p.bdiv ≡ k → (qs : List BaudDivisors) × (ps ≡ p ∷ qs) × F (k + 1) qs
  taken [] f v e = absurd (Memᴰ.not-nil (f.complete _ v (le_of_eq (sym e))))
  taken {k} {p} (q ∷ qs) f v e = ⊎_elim
      (λ (s : p ≡ q). (qs, ap (λ (x : BaudDivisors). x ∷ qs) (sym s), subst (λ (j : ℕ). F (j + 1) qs) (ap (λ (x : BaudDivisors). x.bdiv) (sym s) ∙ e) (tail f)))
      (λ (m : Memᴰ p qs). absurd (behind (at_front f).1 (least p (tail f).rising m) e)) (Memᴰ.cases_cons (f.complete p v (le_of_eq (sym e))))
    where
      behind : {a b c : ℕ} → a ≤ b → b + 1 ≤ c → c ≡ a → ⊥
      behind h g e = omega arith

  pub passed : {k : ℕ} (ps : List BaudDivisors) → F k ps → ((p : BaudDivisors) → Fit p → p.bdiv ≡ k → ⊥) → F (k + 1) ps
  passed {k} ps f free = record {
    sound = f.sound;
    complete = λ p v h. f.complete p v (omega arith);
    rising = raised ps (λ p m. above p.bdiv k (free p (f.sound p m)) (least p f.rising m)) f.rising;
  }
    where
      raised : (qs : List BaudDivisors) → ((p : BaudDivisors) → Memᴰ p qs → k + 1 ≤ p.bdiv) → Rising k qs → Rising (k + 1) qs
      raised [] h r = end
      raised (q ∷ qs) h (next l r) = next (h q (Memᴰ.head refl)) r

  pub done : {k : ℕ} (ps : List BaudDivisors) → F k ps → LAST < k → ps ≡ []
  done [] f l = refl
  done {k} (q ∷ qs) f l = absurd (over q.bdiv k (at_front f).0.candidate.in_range.to l (at_front f).1)

  -- ---- one list only
  fronts : {k : ℕ} {p q : BaudDivisors} {ps qs : List BaudDivisors} → F k (p ∷ ps) → F k (q ∷ qs) → p ≡ q
  fronts {k} {p} {q} {ps} {qs} f g = ⊎_elim (λ (e : p ≡ q). e)
      (λ (m : Memᴰ p qs). ⊎_elim (λ (e : q ≡ p). sym e) (λ (n : Memᴰ q ps). absurd (crossed (least p (tail g).rising m) (least q (tail f).rising n))) (Memᴰ.cases_cons (f.complete q (at_front g).0 (at_front g).1)))
      (Memᴰ.cases_cons (g.complete p (at_front f).0 (at_front f).1))
    where
      crossed : {a b : ℕ} → a + 1 ≤ b → b + 1 ≤ a → ⊥
      crossed h g = omega arith

  pub only : {k : ℕ} (ps qs : List BaudDivisors) → F k ps → F k qs → ps ≡ qs
  only [] [] f g = refl
  only [] (q ∷ qs) f g = absurd (Memᴰ.not-nil (f.complete q (at_front g).0 (at_front g).1))
  only (p ∷ ps) [] f g = absurd (Memᴰ.not-nil (g.complete p (at_front f).0 (at_front f).1))
  only {k = k} (p ∷ ps) (q ∷ qs) f g =
      let e = fronts f g in
      ap₂ ◌∷◌ e (only {k = p.bdiv + 1} ps qs (tail f) (subst (λ (x : BaudDivisors). F (x.bdiv + 1) qs) (sym e) (tail g)))

  -- ---- the whole list
  pub whole : {ps : List BaudDivisors} → F FIRST ps → Viables reference target ps
  whole f = record { sound = f.sound; complete = λ p v. f.complete p v v.candidate.in_range.from; rising = lower 0 zero-le f.rising }

  pub all : {ps : List BaudDivisors} → Viables reference target ps → F FIRST ps
  all {ps} v = record { sound = v.sound; complete = λ p h _. v.complete p h; rising = higher ps v.sound v.rising }
    where
      higher : (qs : List BaudDivisors) → ((p : BaudDivisors) → Memᴰ p qs → Fit p) → Rising 0 qs → Rising FIRST qs
      higher [] f r = end
      higher (q ∷ qs) f (next l r) = next (f q (Memᴰ.head refl)).candidate.in_range.from r

  pub begun : Tally reference target 0 FIRST
  begun = record { full = λ ps f. (ps, f, sym (zero-add (length ps))) }

  pub one_more : {n k : ℕ} {t : Option BaudDivisors} → is_some t ≡ true → Outcome Fit k t → Tally reference target n k → Tally reference target (n + 1) (k + 1)
  one_more {t = Some p} e o c = record { full = λ ps f. let r = c.full (p ∷ ps) (before o f) in (r.0, r.1, omega (arith, r.2)) }
  one_more {t = None} e o c = cc

  pub no_more : {n k : ℕ} {t : Option BaudDivisors} → is_some t ≡ false → Outcome Fit k t → Tally reference target n k → Tally reference target n (k + 1)
  no_more {t = Some p} e o c = cc
  no_more {t = None} e o c = record { full = λ ps f. c.full ps (before o f) }

  pub total : {n k : ℕ} → LAST < k → Tally reference target n k → Counts reference target n
  total {n} l c = let r = c.full [] (beyond l) in record { list = r.0; viables = whole r.1; many = sym (r.2 ∙ add-zero n) }

  -- ---- there is a list, and it is no longer than the range
  listed : (n k : ℕ) → n + k ≡ LAST + 1 → (ps : List BaudDivisors) × F k ps × (length ps ≤ n)
  listed zero k e = ([], beyond (omega arith), zero-le)
  listed (suc n) k e =
      let r = listed n (k + 1) (omega arith) in
      let d = decided reference target k in
      (put d.0 r.0, before d.1 r.1, longer d.0 r.0 n r.2)

  pub few : {ps : List BaudDivisors} → Viables reference target ps → length ps ≤ COUNT
  few {ps} v = let r = listed COUNT FIRST refl in subst (λ (x : List BaudDivisors). length x ≤ COUNT) (only r.0 ps r.1 (all v)) r.2

  -- ---- whether it fits
  pub always : {lent : ℕ} → COUNT ≤ lent → Roomy reference target lent (Ok tt)
  always l = let r = listed COUNT FIRST refl in Room.enough r.0 (whole r.1) (le_trans r.2 l)

  pub fits : {lent n : ℕ} → n ≤ lent → Counts reference target n → Roomy reference target lent (Ok tt)
  fits {lent} l c = Room.enough c.list c.viables (subst (λ (x : ℕ). x ≤ lent) c.many l)

  pub exceeds : {lent n : ℕ} → lent < n → Counts reference target n → Roomy reference target lent (Err record { needed = n })
  exceeds {lent} l c = rw c.many (too_few c.list c.viables (subst (λ (x : ℕ). lent < x) c.many l))

  pub ruleset roomy = (always, exceeds)

  pub one_count : {n m : ℕ} → Counts reference target n → Counts reference target m → n ≡ m
  one_count c d = c.many ∙ ap length (only c.list d.list (all c.viables) (all d.viables)) ∙ sym d.many
