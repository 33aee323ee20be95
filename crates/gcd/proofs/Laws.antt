-- The laws of the greatest common divisor that other crates cite. Assumes nothing.
use Prim.Native.Nat.{ℕ, zero, suc, ◌+◌, ◌*◌, ◌/◌, ◌%◌, ◌<◌, ◌≤◌, ◌∣◌}
use mathlib.Core.Path.{◌≡◌, sym, ap, subst, ◌∙◌}
use native.Mathlib.Decide.{dec_le}
use native.Mathlib.Nat.{
  dvd_antisymm,
  dvd-mod_iff,
  dvd-mul_right,
  dvd-mul_left,
  dvd_of_mul-dvd-mul_right,
  dvd_refl,
  dvd-zero,
  eq-one_of_dvd-one,
  div-mul_cancel,
  eq-zero_of_zero-dvd,
  mod-lt,
  mul-dvd-mul_right,
  one-mul,
}
use native.Mathlib.Omega.{arith}
use Rattle.gcd.specs.Common.{Greatest, Coprime}

-- Euclid's rule: with 0, and a step
pub with_zero : (a : ℕ) → Greatest a 0 a
with_zero a = record { first = dvd_refl a; second = dvd-zero a; common = λ d da dz. da }

pub step : (a b : ℕ) {g : ℕ} → Greatest b (a % b) g → Greatest a b g
step a b {g} h =
    record {
      first = (dvd-mod_iff g h.first).0 h.second;
      second = h.first;
      common = λ d da db. h.common d db ((dvd-mod_iff d db).1 da);
    }

pub unique : {a b g h : ℕ} → Greatest a b g → Greatest a b h → g ≡ h
unique {g = g} {h} x y = dvd_antisymm (y.common g x.first x.second) (x.common h y.first y.second)

pub of_zeros : {g : ℕ} → Greatest 0 0 g → g ≡ 0
of_zeros x = eq-zero_of_zero-dvd (x.common 0 (dvd_refl 0) (dvd_refl 0))

-- it is 0 for no two numbers else
pub no_divisor : {a b g : ℕ} → Greatest a b g → g ≡ 0 → a + b ≡ 0
no_divisor {a} {b} x z =
    omega (arith, eq-zero_of_zero-dvd (subst (λ (d : ℕ). d ∣ a) z x.first), eq-zero_of_zero-dvd (subst (λ (d : ℕ). d ∣ b) z x.second))

pub some_divisor : {a b g : ℕ} → Greatest a b g → 0 < g → 0 < a + b
some_divisor {a} {b} {g} x p =
    elim (dec_le (a + b) 0) [
      | yes z ↦
          let e : a ≡ 0 = omega arith in
          let f : b ≡ 0 = omega arith in
          absurd (omega (arith, p, of_zeros (subst (λ (n : ℕ). Greatest n 0 g) e (subst (λ (n : ℕ). Greatest a n g) f x))))
      | no z ↦ omega arith
    ]

-- what is left after dividing both by it has no common divisor but 1
scaled : (g d : ℕ) {n : ℕ} → g ∣ n → d ∣ n / g → d * g ∣ n
scaled g d gn dn = subst (λ (m : ℕ). d * g ∣ m) (div-mul_cancel g gn) (mul-dvd-mul_right d dn g)

pub left_over : {a b g : ℕ} → Greatest a b g → 0 < g → Coprime (a / g) (b / g)
left_over {g = g} x p d da db =
    let within = x.common (d * g) (scaled g d x.first da) (scaled g d x.second db) in
    eq-one_of_dvd-one (dvd_of_mul-dvd-mul_right d p (subst (λ (m : ℕ). d * g ∣ m) (sym (one-mul g)) within))

-- any two numbers have one
exists_within : (n a b : ℕ) → b ≤ n → (g : ℕ) × Greatest a b g
exists_within zero a b h = (a, subst (λ (k : ℕ). Greatest a k a) (let z : 0 ≡ b = omega arith in z) (with_zero a))
exists_within (suc n) a b h =
    elim (dec_le b 0) [
      | yes z ↦ exists_within n a b (omega arith)
      | no p ↦ let r = exists_within n b (a % b) (omega (arith, mod-lt a {m = b} (omega arith))) in (r.0, step a b r.1)
    ]

pub exists : (a b : ℕ) → (g : ℕ) × Greatest a b g
exists a b = exists_within b a b (omega arith)

-- what has no common divisor with b and divides b times c divides c (Euclid, Elements VII.24 and 30)
pub divides_other : (a b c : ℕ) → Coprime a b → a ∣ b * c → a ∣ c
divides_other a b c prime h =
    elim (dec_le c 0) [
      | yes z ↦ subst (λ (n : ℕ). a ∣ n) (let e : 0 ≡ c = omega arith in e) (dvd-zero a)
      | no p ↦
          let r = exists (a * c) (b * c) in
          let g = r.0 in
          let whole : g / c * c ≡ g = div-mul_cancel c (r.1.common c (dvd-mul_left c a) (dvd-mul_left c b)) in
          let one : g / c ≡ 1 =
          prime (g / c)
          (dvd_of_mul-dvd-mul_right (g / c) (omega arith) (subst (λ (n : ℕ). n ∣ a * c) (sym whole) r.1.first))
          (dvd_of_mul-dvd-mul_right (g / c) (omega arith) (subst (λ (n : ℕ). n ∣ b * c) (sym whole) r.1.second))
          in
          let same : g ≡ c = sym whole ∙ ap (λ (n : ℕ). n * c) one ∙ one-mul c in
          subst (λ (n : ℕ). a ∣ n) same (r.1.common a (dvd-mul_right a c) h)
    ]
