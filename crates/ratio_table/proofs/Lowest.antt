-- The laws of a ratio in lowest terms. Assumes nothing.
use Prim.Native.Nat.{ℕ, ◌+◌, ◌*◌, ◌/◌, ◌^◌, ◌<◌, ◌≤◌, ◌∣◌}
use mathlib.Core.Path.{◌≡◌, refl, sym, ap, ap₂, subst, ◌∙◌}
use native.Mathlib.Decide.{dec_le}
use native.Mathlib.Nat.{
  div-mul_cancel,
  dvd_antisymm,
  dvd-mul_right,
  dvd_refl,
  dvd-zero,
  eq_of_mul-eq-mul_left,
  eq_of_mul-eq-mul_right,
  eq-one_of_dvd-one,
  le_of_dvd,
  mul_assoc,
  mul_comm,
  mul-le-mul,
  mul_left_comm,
  mul-mul-mul_comm,
  mul-pos,
  pos_of_ne-zero,
  zero-mul,
}
use native.Mathlib.Omega.{arith}
use Rattle.gcd.specs.Common.{Greatest, Coprime}
use Rattle.gcd.proofs.Laws.{divides_other, left_over}
use Rattle.ratio_table.specs.declared.Ratio.{Ratio}
use Rattle.ratio_table.specs.Lowest.{Lowest, Reduced, inverse, no_terms, ratio, to_lowest}

-- a product of two numbers of 32 bits has 64
pub wide : {a b : ℕ} → a < 2 ^ 32 → b < 2 ^ 32 → a * b < 2 ^ 64
wide {a} {b} p q = omega (arith, mul-le-mul {n₁ = a} {m₁ = b} {n₂ = 4294967295} {m₂ = 4294967295} (omega arith) (omega arith))

-- both numbers over their greatest common divisor
pub reduced : {x y g : ℕ} → Greatest x y g → 0 < g → Lowest x y (ratio (x / g) (y / g))
reduced {x} {y} {g} h p = record { equal = crossed; lowest = left_over h p }
  where
    crossed : x / g * y ≡ x * (y / g)
    crossed =
        ap (λ (n : ℕ). x / g * n) (sym (div-mul_cancel g h.second))
        ∙ ap (λ (n : ℕ). x / g * n) (mul_comm (y / g) g)
        ∙ sym (mul_assoc (x / g) g (y / g))
        ∙ ap (λ (n : ℕ). n * (y / g)) (div-mul_cancel g h.first)

-- a number to itself
pub itself : (x : ℕ) → Lowest x x (ratio 1 1)
itself x = record { equal = mul_comm 1 x; lowest = λ d h k. eq-one_of_dvd-one h }

pub turned : {x y : ℕ} {r : Ratio} → Lowest x y r → Lowest y x (inverse r)
turned {x} {y} {r} h = record { equal = mul_comm r.den x ∙ sym h.equal ∙ mul_comm r.num y; lowest = λ d a b. h.lowest d b a }

-- of two numbers that are not 0 neither number of the ratio is 0, and there is one ratio
not_both : {r : Ratio} → Coprime r.num r.den → r.num ≡ 0 → r.den ≡ 0 → ⊥
not_both h n d =
    let e : ◌≡◌ {A = ℕ} 2 1 = h 2 (subst (λ (m : ℕ). 2 ∣ m) (sym n) (dvd-zero 2)) (subst (λ (m : ℕ). 2 ∣ m) (sym d) (dvd-zero 2)) in
    omega arith

product_zero : (a b : ℕ) → a * b ≡ 0 → 0 < a → b ≡ 0
product_zero a b e p = elim (dec_le b 0) [ yes z ↦ omega arith | no q ↦ let r = mul-pos {m = a} {n = b} p (omega arith) in absurd (omega arith) ]

module _ {x y : ℕ} (p : 0 < x) (q : 0 < y) where
  pub no_zero : {r : Ratio} → Lowest x y r → (0 < r.num) × (0 < r.den)
  no_zero {r} h = (pos_of_ne-zero num_zero, pos_of_ne-zero den_zero)
    where
      num_zero : r.num ≡ 0 → ⊥
      num_zero e = not_both {r = r} h.lowest e (product_zero x r.den (sym h.equal ∙ ap (λ (n : ℕ). n * y) e ∙ zero-mul y) p)

      den_zero : r.den ≡ 0 → ⊥
      den_zero e = not_both {r = r} h.lowest (product_zero y r.num (mul_comm y r.num ∙ h.equal ∙ ap (λ (n : ℕ). x * n) e ∙ mul_comm x 0 ∙ zero-mul x) q) e

  -- fractions that are x to y are each other's
  pub crossed : (n d m e : ℕ) → n * y ≡ x * d → m * y ≡ x * e → n * e ≡ m * d
  crossed n d m e h k =
      eq_of_mul-eq-mul_right (y * x) (mul-pos q p) (n * e) (m * d)
      (mul-mul-mul_comm n e y x
      ∙ ap (λ (l : ℕ). l * (e * x)) h
      ∙ mul-mul-mul_comm x d e x
      ∙ ap (λ (l : ℕ). l * (d * x)) (sym k)
      ∙ mul-mul-mul_comm m y d x)

  divides : {r s : Ratio} → Lowest x y r → Lowest x y s → r.num ∣ s.num
  divides {r} {s} h k =
      divides_other r.num r.den s.num h.lowest
      (subst (λ (n : ℕ). r.num ∣ n) (crossed r.num r.den s.num s.den h.equal k.equal ∙ mul_comm s.num r.den) (dvd-mul_right r.num s.den))

  pub one_ratio : {r s : Ratio} → Lowest x y r → Lowest x y s → r ≡ s
  one_ratio {r} {s} h k = ap₂ ratio nums dens
    where
      nums : r.num ≡ s.num
      nums = dvd_antisymm (divides h k) (divides k h)

      dens : r.den ≡ s.den
      dens = eq_of_mul-eq-mul_left r.num (no_zero h).0 r.den s.den (ap (λ (n : ℕ). n * r.den) nums ∙ sym (crossed r.num r.den s.num s.den h.equal k.equal))

-- a common factor of both numbers changes nothing
pub cancelled : (k x y n d : ℕ) → 0 < k → n * (k * y) ≡ k * x * d → n * y ≡ x * d
cancelled k x y n d p h = eq_of_mul-eq-mul_left k p (n * y) (x * d) (mul_left_comm k n y ∙ h ∙ mul_assoc k x d)

pub unscaled : (k x y : ℕ) {r : Ratio} → 0 < k → Lowest (k * x) (k * y) r → Lowest x y r
unscaled k x y {r} p h = record { equal = cancelled k x y r.num r.den p h.equal; lowest = h.lowest }

-- the product of two fractions is the fraction of the products
pub times : (x y u v n d m e : ℕ) → n * y ≡ x * d → m * v ≡ u * e → n * m * (y * v) ≡ x * u * (d * e)
times x y u v n d m e h k =
    mul-mul-mul_comm n m y v ∙ ap₂ (λ (a b : ℕ). a * b) h k ∙ mul-mul-mul_comm x d u e

-- the first number divides x, so that it is at most x
pub within : {x y : ℕ} {r : Ratio} → 0 < x → Lowest x y r → r.num ≤ x
within {x} {y} {r} p h =
    le_of_dvd p
    (divides_other r.num r.den x h.lowest
    (subst (λ (n : ℕ). r.num ∣ n) (h.equal ∙ mul_comm x r.den) (dvd-mul_right r.num y)))

-- numbers that are not both 0 are reduced to lowest terms
pub of_reduced : {x y : ℕ} {r : Ratio} → 0 < x → Reduced x y r → Lowest x y r
of_reduced p (to_lowest q h) = h
of_reduced p (no_terms z) = absurd (omega arith)

-- of 0 and another number it is 0 to 1; so any two numbers have one
first_zero : {x y : ℕ} {r : Ratio} → x ≡ 0 → 0 < x + y → Lowest x y r → r ≡ ratio 0 1
first_zero {x} {y} {r} e p h = ap₂ ratio num den
  where
    num : r.num ≡ 0
    num = product_zero y r.num (mul_comm y r.num ∙ h.equal ∙ ap (λ (n : ℕ). n * r.den) e ∙ zero-mul r.den) (omega (arith, p, e))

    den : r.den ≡ 1
    den = h.lowest r.den (subst (λ (n : ℕ). r.den ∣ n) (sym num) (dvd-zero r.den)) (dvd_refl r.den)

one_lowest : {x y : ℕ} {r s : Ratio} → 0 < x + y → Lowest x y r → Lowest x y s → r ≡ s
one_lowest {x} {y} p h k =
    elim (dec_le x 0) [
      | yes z ↦ let e : x ≡ 0 = omega arith in first_zero e p h ∙ sym (first_zero e p k)
      | no q ↦
          elim (dec_le y 0) [
            | yes z ↦ let e : y ≡ 0 = omega arith in ap inverse (first_zero e (omega arith) (turned h) ∙ sym (first_zero e (omega arith) (turned k)))
            | no o ↦ one_ratio (omega arith) (omega arith) h k
          ]
    ]

pub one_reduced : {x y : ℕ} {r s : Ratio} → Reduced x y r → Reduced x y s → r ≡ s
one_reduced (to_lowest p h) (to_lowest _ k) = one_lowest p h k
one_reduced (to_lowest p h) (no_terms z) = absurd (omega arith)
one_reduced (no_terms z) (to_lowest p k) = absurd (omega arith)
one_reduced (no_terms _) (no_terms _) = refl
