-- Zero as a factor and as a divisor: what is over zero rounds to no whole number from 1 to 65,535.
use Rattle.std.proofs.Common.{◌≡◌, ℕ, ◌*◌, ◌<◌, Bool, true, false, cond, T, eqb, ◌⊎◌, pos, refl, ap, ◌∙◌, inl, inr, zero-lt-suc, mul-pos, mul-zero, zero-mul}
use lib.Ieee.{Float, nan, inf, fin, binary32, round, mul, div}
use lib.Ieee.Positive.{num, den, den_pos}
use lib.Ieee.Scale.{round_same}
use Rattle.float32.specs.Whole.{to_whole}
use Rattle.float32.proofs.Parts.{plain, product}

abbrev pub zero : Float
zero = fin false 0 (pos 0)

round_zero : (c : ℕ) → 0 < c → round binary32 false 0 c ≡ zero
unfolding round
round_zero c C = round_same binary32 false 0 c 0 1 C (zero-lt-suc 0) (simp zero-mul)

pub times_zero : (x : Float) → T (plain x) → mul binary32 x zero ≡ zero
times_zero x p = product binary32 x zero p tt ∙ ap (λ (a : ℕ). round binary32 false a (den x * 1)) (mul-zero (num x)) ∙ round_zero (den x * 1) (mul-pos (den_pos x) (zero-lt-suc 0))

pub over_zero : (x : Float) → T (plain x) → (to_whole (div binary32 x zero) ≡ 0) ⊎ (to_whole (div binary32 x zero) ≡ 65536)
unfolding div to_whole
over_zero (fin false m e) p = go (eqb m 0)
  where
    go : (b : Bool) → (to_whole (cond b nan (inf false)) ≡ 0) ⊎ (to_whole (cond b nan (inf false)) ≡ 65536)
    go true = inl refl
    go false = inr refl
over_zero nan p = elim p [ ]
over_zero (inf _) p = elim p [ ]
over_zero (fin true m e) p = elim p [ ]
