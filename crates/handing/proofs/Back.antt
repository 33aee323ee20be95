-- From the number and the row that a call hands back to what it tells: no two refusals have one code, and none has an answer's. Assumes nothing.
use Prim.Native.Nat.{ℕ, ◌≤◌}
use mathlib.Core.Path.{◌≡◌, refl, sym, ap, ◌∙◌, subst}
use mathlib.Core.Bool.{Bool, true, false, not, ◌&&◌, ◌||◌}
use mathlib.Core.Logic.{◌⊎◌, inl, inr, ⊎_elim}
use mathlib.Core.List.{List, [], ◌∷◌, ◌++◌}
use native.Mathlib.Omega.{arith}
use lib.Dec.{T, eqb, ltb, leb, leb→le, eqb→eq}
use lib.ListN.{length, drop}
use Rattle.std.specs.Prelude.{Result, Ok, Err}
use Rattle.refusals.specs.Told.{Told, answered, refused}
use Rattle.refusals.specs.Carried.{Carried, carries}
use Rattle.refusals.specs.Refusal.{told, number_of, carried_by, listed}
use Rattle.refusals.specs.declared.Refusal.{Refusal}
use Rattle.handing.specs.Handed.{Given, code, first, returned}
use Rattle.handing.proofs.Handing.{not_zero, right_carried}

both : (a b : Bool) → T (a && b) → T a × T b
both true b t = (tt, t)
both false b t = elim t [ ]

either : (a b : Bool) → T (a || b) → T a ⊎ T b
either true b t = inl tt
either false b t = inr t

neither : (b : Bool) → T b → T (not b) → ⊥
neither true t n = elim n [ ]
neither false t n = elim t [ ]

small_carrier : (n : ℕ) → T (carries n) → n ≤ 20
small_carrier n t =
    ⊎_elim (λ e. let h = eqb→eq n 2 e in omega arith) (λ t₁.
    ⊎_elim (λ e. let h = eqb→eq n 3 e in omega arith) (λ t₂.
    ⊎_elim (λ e. let h = eqb→eq n 5 e in omega arith) (λ t₃.
    ⊎_elim (λ e. let h = eqb→eq n 9 e in omega arith) (λ e. let h = eqb→eq n 15 e in omega arith)
    (either (eqb n 9) (eqb n 15) t₃)) (either (eqb n 5) (eqb n 9 || eqb n 15) t₂)) (either (eqb n 3) (eqb n 5 || (eqb n 9 || eqb n 15)) t₁))
    (either (eqb n 2) (eqb n 3 || (eqb n 5 || (eqb n 9 || eqb n 15))) t)

-- a refusal's number is one of twenty
small : (n : ℕ) (c : List ℕ) → Carried n c → n ≤ 20
small n [] t = leb→le n 20 (both (leb n 20) (not (carries n)) (both (ltb 0 n) (leb n 20 && not (carries n)) t).1).0
small n (x ∷ []) t = small_carrier n t
small n (x ∷ (_ ∷ _)) t = elim t [ ]

-- one number, and one thing carried: what is carried has one form behind it
same_carried : (n : ℕ) (c d : List ℕ) → Carried n c → Carried n d → first c ≡ first d → c ≡ d
same_carried n [] [] s t e = refl
same_carried n [] (y ∷ []) s t e = absurd (neither (carries n) t (both (leb n 20) (not (carries n)) (both (ltb 0 n) (leb n 20 && not (carries n)) s).1).1)
same_carried n (x ∷ []) [] s t e = absurd (neither (carries n) s (both (leb n 20) (not (carries n)) (both (ltb 0 n) (leb n 20 && not (carries n)) t).1).1)
same_carried n (x ∷ []) (y ∷ []) s t e = ap (λ (z : ℕ). z ∷ []) e
same_carried n (x ∷ (_ ∷ _)) d s t e = elim s [ ]
same_carried n [] (y ∷ (_ ∷ _)) s t e = elim t [ ]
same_carried n (x ∷ []) (y ∷ (_ ∷ _)) s t e = elim t [ ]

pub one_code : (n m : ℕ) (c d : List ℕ) → Carried n c → Carried m d → code n c ≡ code m d → (n ≡ m) × (c ≡ d)
one_code n m c d s t e =
    let few = small n c s in
    let few' = small m d t in
    let same : n ≡ m = omega arith in
    let same' : first c ≡ first d = omega arith in
    (same, same_carried m c d (subst (λ (k : ℕ). Carried k c) same s) t same')

pub err_not_zero : {r : Result (Unit {0}) Refusal} {e : Refusal} → r ≡ Err e → returned r ≡ 0 → ⊥
err_not_zero {e = e} is z = not_zero (number_of e) (listed (carried_by e)) (right_carried e) (sym (ap returned is) ∙ z)

-- what is told of a result whose number and row were given back
pub data Back (Tells : Told (List ℕ) → Type 0) (before : List ℕ) : Result (Unit {0}) Refusal → List ℕ → Type 0 where
  answer : {words : List ℕ} → Tells (answered words) → Back Tells before (Ok tt) (words ++ drop (length words) before)
  refusal : {e : Refusal} → Tells (told (Err e)) → Back Tells before (Err e) before

module _ {Tells : Told (List ℕ) → Type 0} {before : List ℕ} where
  from_answer : {r : ℕ} {after : List ℕ} → r ≡ 0 → Given Tells before r after → Back Tells before (Ok tt) after
  from_answer z (Given.refusal {number = n} {carried = c} s t) = absurd (not_zero n c s z)
  from_answer z (Given.answer t) = Back.answer t

  from_refusal : (e : Refusal) {r : ℕ} {after : List ℕ} → r ≡ returned (Err e) → Given Tells before r after → Back Tells before (Err e) after
  from_refusal e z (Given.refusal {number = n} {carried = c} s t) =
      let same = one_code n (number_of e) c (listed (carried_by e)) s (right_carried e) z in
      Back.refusal (let f : refused n c ≡ told (Err e) = cc (same.0, same.1) in subst Tells f t)
  from_refusal e z (Given.answer t) = absurd (not_zero (number_of e) (listed (carried_by e)) (right_carried e) (sym z))

  pub back : (r : Result (Unit {0}) Refusal) {after : List ℕ} → Given Tells before (returned r) after → Back Tells before r after
  back (Ok tt) g = from_answer refl g
  back (Err e) g = from_refusal e refl g
