-- What a choice by a test came to.
use mathlib.Core.Path.{◌≡◌, refl}
use mathlib.Core.Bool.{Bool, true, false, cond}
use Prim.Native.Nat.{ℕ}
use native.Mathlib.Omega.{arith}

pub chosen : {A P : Type 0} (test : Bool) {x y z : A} → (test ≡ true → x ≡ z → P) → (test ≡ false → y ≡ z → P) → cond test x y ≡ z → P
chosen true t f e = t refl e
chosen false t f e = f refl e

-- for two answers that are not the same: `never (cc)`
pub never : {P : Type 0} → ◌≡◌ {A = ℕ} 0 1 → P
never e = absurd (omega arith)
