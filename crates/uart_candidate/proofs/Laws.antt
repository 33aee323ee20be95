-- What holds of every candidate: its target is not 0, its product is exact, and its error is a number, at most 2 ^ 32.
use mathlib.Core.Path.{◌≡◌, ◌∙◌, ap, subst}
use mathlib.Core.Logic.{⊎_elim}
use Prim.Native.Nat.{ℕ, ◌+◌, ◌*◌, ◌<◌, ◌≤◌}
use native.Mathlib.Nat.{eq-zero-or-pos, le_trans, mul-le-mul, mul-pos}
use native.Mathlib.Omega.{arith}
use lib.Dec.{T, lit≤}
use lib.Ieee.{Float, binary32, mul, div, round, of_int}
use Rattle.float32.specs.Whole.{of_whole, to_whole}
use Rattle.float32.proofs.Parts.{plain}
use Rattle.float32.proofs.Bound.{UpTo, LIMIT, whole, not_zero, quotient_up_to, distance_up_to}
use Rattle.float32.proofs.Exact.{product_exact}
use Rattle.float32.proofs.Zero.{zero, times_zero, over_zero}
use Rattle.uart_candidate.specs.Range.{LAST, LARGEST}
use Rattle.uart_candidate.specs.Candidate.{actual_baud, Candidate}
use Rattle.uart_candidate.specs.declared.BaudDivisors.{BaudDivisors}

module _ {reference target : Float} {p : BaudDivisors} (h : Candidate reference target p) where
  pub small : p.cd * (p.bdiv + 1) ≤ LARGEST
  small = mul-le-mul {m₂ = LAST + 1} h.not_above (omega (arith, h.in_range.to))

  some : 0 < p.cd * (p.bdiv + 1)
  some = mul-pos h.not_zero (omega arith)

  pub exact : mul binary32 (of_whole p.cd) (of_whole (p.bdiv + 1)) ≡ of_whole (p.cd * (p.bdiv + 1))
  exact = product_exact p.cd (p.bdiv + 1) h.not_zero (omega arith) (le_trans small (lit≤ tt))

-- ---- target 0
no_target : (reference : Float) (p : BaudDivisors) → T (plain reference) → Candidate reference (of_whole 0) p → ⊥
unfolding of_int round
no_target reference p q h =
    let b = (whole (p.bdiv + 1) (omega (arith, h.in_range.to))).is_plain in
    let e : p.cd ≡ to_whole (div binary32 reference zero) = h.cd_is ∙ ap (λ (y : Float). to_whole (div binary32 reference y)) (times_zero (of_whole (p.bdiv + 1)) b) in
    ⊎_elim (λ (z : to_whole (div binary32 reference zero) ≡ 0). outside (e ∙ z) h.not_zero) (λ (z : to_whole (div binary32 reference zero) ≡ 65536). beyond (e ∙ z) h.not_above) (over_zero reference q)
  where
    outside : p.cd ≡ 0 → 1 ≤ p.cd → ⊥
    outside z k = omega arith

    beyond : p.cd ≡ 65536 → p.cd ≤ 65535 → ⊥
    beyond z k = omega arith

pub has_target : (reference target : ℕ) {p : BaudDivisors} → reference ≤ LIMIT → Candidate (of_whole reference) (of_whole target) p → 0 < target
has_target reference target {p} r h = ⊎_elim (λ (z : target ≡ 0). absurd (no_target (of_whole reference) p (whole reference r).is_plain (subst (λ (t : ℕ). Candidate (of_whole reference) (of_whole t) p) z h))) (λ (g : 0 < target). g) (eq-zero-or-pos target)

-- ---- the error
pub bounded : (reference target : ℕ) {p : BaudDivisors} → reference ≤ LIMIT → target ≤ LIMIT → Candidate (of_whole reference) (of_whole target) p → UpTo LIMIT p.error
bounded reference target {p} r t h =
    let t1 = not_zero target (has_target reference target r h) t in
    let n = not_zero (p.cd * (p.bdiv + 1)) (some h) (le_trans (small h) (lit≤ tt)) in
    let a = quotient_up_to (of_whole reference) (of_whole (p.cd * (p.bdiv + 1))) (whole reference r) n in
    let a' : UpTo LIMIT (actual_baud (of_whole reference) p.cd p.bdiv) = rw (exact h) a in
    rw h.error_is (quotient_up_to _ (of_whole target) (distance_up_to _ (of_whole target) a' (whole target t)) t1)
