-- The signed difference of two totals. Assumes nothing.
use Rattle.std.proofs.Common.{◌≡◌, ℕ, suc, ◌-◌, ◌<◌, ◌≤◌, Bool, cond, pos, negsuc, sym, ap, ◌∙◌, ap₂, arith, le-ltb, lt-ltb}
use native.Mathlib.Decide.{dec_le}
use lib.IntN.{sub_ℕ}
use Rattle.trace.specs.Difference.{capped, difference}

pub uncapped : {t : ℕ} → t < 9_223_372_036_854_775_808 → capped t ≡ t
uncapped {t} h = simp (lt-ltb t 9_223_372_036_854_775_808 h)

at_least : (x y : ℕ) → y ≤ x → sub_ℕ x y ≡ pos (x - y)
at_least x y l = ap (λ (b : Bool). cond b (negsuc (y - suc x)) (pos (x - y))) (le-ltb x y l)

short : (x y : ℕ) → x < y → sub_ℕ x y ≡ negsuc (y - suc x)
short x y l = ap (λ (b : Bool). cond b (negsuc (y - suc x)) (pos (x - y))) (lt-ltb x y l)

-- of totals that a signed number holds
pub uncapped_difference : (a b : ℕ) → a < 9_223_372_036_854_775_808 → b < 9_223_372_036_854_775_808 → difference a b ≡ sub_ℕ a b
uncapped_difference a b h k =
    ap₂ sub_ℕ (uncapped {t = a - b} (omega arith)) (uncapped {t = b - a} (omega arith))
    ∙ elim (dec_le b a) [
      | yes l ↦ at_least (a - b) (b - a) (omega arith) ∙ ap pos (omega arith) ∙ sym (at_least a b l)
      | no l ↦ short (a - b) (b - a) (omega arith) ∙ ap negsuc (omega arith) ∙ sym (short a b (omega arith))
    ]
