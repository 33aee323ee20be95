-- One crystal and image have one answer: `evaluated` gives one thing to tell, and no two answers tell the same. Assumes nothing.
use mathlib.Core.Path.{◌≡◌, ◌∙◌, refl, sym, ap}
use mathlib.Core.List.{List}
use Prim.Native.Nat.{ℕ}
use native.Mathlib.Omega.{arith}
use Rattle.refusals.specs.Told.{Told, answered, refused}
use Rattle.clocks.specs.declared.Clocks.{Clocks}
use Rattle.clocks.proofs.Laws.{same_module}
use Rattle.evaluation.specs.declared.ClockReadError.{ClockReadError}
use Rattle.evaluation.specs.declared.ClockReadError.TheVariants.{BadImage, DivisorZero, Overflow}
use Rattle.std.proofs.Common.{Result, Ok, Err}
use Rattle.evaluation.specs.Evaluated.{told, told_error, evaluated}

-- an answer counts as 0, a refusal by its number
number : {A : Type 0} → Told A → ℕ
number (answered a) = 0
number (refused n carries) = n

same_error : (e f : ClockReadError) → told_error {A = Clocks} e ≡ told_error f → e ≡ f
unfolding number
same_error BadImage BadImage p = refl
same_error BadImage (DivisorZero m) p = absurd (omega (arith, ap number p))
same_error BadImage (Overflow m) p = absurd (omega (arith, ap number p))
same_error (DivisorZero m) BadImage p = absurd (omega (arith, ap number p))
same_error (DivisorZero m) (DivisorZero n) p = ap DivisorZero (same_module m n cc)
same_error (DivisorZero m) (Overflow n) p = absurd (omega (arith, ap number p))
same_error (Overflow m) BadImage p = absurd (omega (arith, ap number p))
same_error (Overflow m) (DivisorZero n) p = absurd (omega (arith, ap number p))
same_error (Overflow m) (Overflow n) p = ap Overflow (same_module m n cc)

not_answered : (e : ClockReadError) (clocks : Clocks) → told_error e ≡ answered clocks → ⊥
unfolding number
not_answered BadImage clocks p = omega (arith, ap number p)
not_answered (DivisorZero m) clocks p = omega (arith, ap number p)
not_answered (Overflow m) clocks p = omega (arith, ap number p)

same_told : (a b : Result Clocks ClockReadError) → told a ≡ told b → a ≡ b
same_told (Ok x) (Ok y) p = cc
same_told (Ok x) (Err f) p = absurd (not_answered f x (sym p))
same_told (Err e) (Ok y) p = absurd (not_answered e y p)
same_told (Err e) (Err f) p = ap Err (same_error e f p)

pub unique :
    (crystal : ℕ) (image : List ℕ) (a b : Result Clocks ClockReadError) →
    told a ≡ evaluated crystal image → told b ≡ evaluated crystal image → a ≡ b
unique crystal image a b p q = same_told a b (p ∙ sym q)
