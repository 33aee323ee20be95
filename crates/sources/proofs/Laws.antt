-- The laws by which a clock word is read. Assumes nothing.
use mathlib.Core.Path.{◌≡◌, ◌∙◌, refl}
use mathlib.Core.Bool.{Bool, true, false, cond}
use Prim.Native.Nat.{ℕ, ◌*◌, ◌/◌}
use native.Mathlib.Nat.{div-div-eq-div-mul, zero-mul}
use borrow.Author.Tests.{eq-eqb, ne_eqb}
use Rattle.fields.specs.Word.{read_field}
use Rattle.registers.specs.Fields.{BYPASS_FORCE, FDIV}
use Rattle.sources.specs.Source.{bypassed, pll_output}

-- what a PLL gives, by its force bit
module _ (crystal control : ℕ) where
  pub passed_on : read_field control BYPASS_FORCE ≡ 1 → pll_output crystal control ≡ crystal
  unfolding pll_output
  passed_on e = rw (eq-eqb _ _ e)

  pub multiplied : (read_field control BYPASS_FORCE ≡ 1 → ⊥) → pll_output crystal control ≡ crystal * read_field control FDIV
  unfolding pll_output
  multiplied n = rw (ne_eqb _ _ n)

-- without a crystal no PLL gives anything, bypassed or not
pub no_crystal : (control : ℕ) → pll_output 0 control ≡ 0
unfolding pll_output
no_crystal control = either (bypassed control)
  where
    either : (b : Bool) → cond b 0 (0 * read_field control FDIV) ≡ 0
    either true = refl
    either false = zero-mul (read_field control FDIV)

-- dividing twice is dividing by the product: floor(floor(x/a)/b) is floor(x/(a·b))
pub twice : (x a b : ℕ) {h : ℕ} → h ≡ x / a / b → h ≡ x / (a * b)
twice x a b e = e ∙ div-div-eq-div-mul x a b
