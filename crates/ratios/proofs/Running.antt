-- Where no check is broken and the crystal is not 0, every PL clock runs: no source and no product is 0. Assumes nothing.
use Prim.Native.Nat.{ℕ, ◌*◌, ◌^◌, ◌<◌, ◌≤◌}
use mathlib.Core.Path.{◌≡◌, refl}
use mathlib.Core.Bool.{Bool, true, false}
use mathlib.Core.List.{List}
use native.Mathlib.Nat.{mul-le-mul, mul-pos, pos_of_ne-zero}
use native.Mathlib.Omega.{arith}
use borrow.Author.Tests.{eqb-true, eqb-false}
use lib.Dec.{lit≤}
use lib.ListN.{get_or}
use Rattle.std.specs.Prelude.{Ok}
use Rattle.fields.specs.declared.Field.{Field}
use Rattle.fields.specs.Word.{read_field}
use Rattle.fields.proofs.Laws.{read_lt}
use Rattle.registers.specs.declared.PllType.{PllType}
use Rattle.registers.specs.declared.PllType.TheVariants.{Arm, Ddr, Io}
use Rattle.registers.specs.Fields.{BYPASS_FORCE, DIVISOR, DIVISOR_1, FDIV}
use Rattle.registers.specs.Words.{word, ARM_PLL_CTRL, DDR_PLL_CTRL, IO_PLL_CTRL, FPGA_0_CLK_CTRL, FPGA_1_CLK_CTRL, FPGA_2_CLK_CTRL, FPGA_3_CLK_CTRL}
use Rattle.sources.specs.Clock.{dual}
use Rattle.sources.specs.Source.{bypassed, output_of, pll_output}
use Rattle.sources.proofs.Laws.{multiplied, passed_on}
use Rattle.checks.specs.Check.{broken, checks, fits, reason, zero}
use Rattle.checks.proofs.Laws.{all_clear, holds}
use Rattle.evaluation.specs.Formulas.{outputs}
use Rattle.ratio_table.specs.Table.{Runs}
use Rattle.ratio_table.proofs.Entries.{four}
use Rattle.ratios.specs.PlClocks.{pl_clock, pl_words}

-- a PLL gives something, bypassed or not
pub pll_runs : (crystal control : ℕ) → 0 < crystal → 0 < read_field control FDIV → 0 < pll_output crystal control
pll_runs crystal control p q = by (bypassed control) refl
  where
    by : (b : Bool) → bypassed control ≡ b → 0 < pll_output crystal control
    by true e = omega (arith, p, passed_on crystal control (eqb-true (read_field control BYPASS_FORCE) 1 e))
    by false e =
        omega (arith, mul-pos p q, multiplied crystal control (eqb-false (read_field control BYPASS_FORCE) 1 e))

-- the product of two fields of at most six bits is at most 63 by 63
pub six_bits : (control : ℕ) (f g : Field) → 2 ^ f.width ≤ 64 → 2 ^ g.width ≤ 64 → read_field control f * read_field control g ≤ 3969
six_bits control f g p q = mul-le-mul {n₂ = 63} {m₂ = 63} (omega (arith, read_lt control f, p)) (omega (arith, read_lt control g, q))

pub product_small : (control : ℕ) → (dual control).product ≤ 3969
product_small control = six_bits control DIVISOR DIVISOR_1 (lit≤ tt) (lit≤ tt)

-- as the code has them
pub product_fits : {a b : ℕ} (control : ℕ) (f g : Field) → a ≡ read_field control f → b ≡ read_field control g → 2 ^ f.width ≤ 64 → 2 ^ g.width ≤ 64 → a * b < 2 ^ 32
product_fits control f g e h p q = rw (e, h) (omega (arith, six_bits control f g p q))

module _ (crystal : ℕ) (image : List ℕ) (unbroken : reason crystal image ≡ Ok tt) where
  check_holds : (k : ℕ) → k < 26 → broken crystal image (get_or checks k (fits 0)) ≡ false
  unfolding reason
  check_holds k h = holds (broken crystal image) (all_clear (broken crystal image) checks unbroken) k (fits 0) h

  field_runs : (w : ℕ) (field : Field) → zero image w field ≡ false → 0 < read_field (word image w) field
  field_runs w field e = pos_of_ne-zero (eqb-false (read_field (word image w) field) 0 e)

  product_runs : (i : ℕ) → i < 4 → 0 < (dual (word image (get_or pl_words i 0))).product
  unfolding broken
  product_runs =
      four (λ (i : ℕ). 0 < (dual (word image (get_or pl_words i 0))).product)
      (mul-pos (field_runs FPGA_0_CLK_CTRL DIVISOR (check_holds 18 (omega arith))) (field_runs FPGA_0_CLK_CTRL DIVISOR_1 (check_holds 19 (omega arith))))
      (mul-pos (field_runs FPGA_1_CLK_CTRL DIVISOR (check_holds 20 (omega arith))) (field_runs FPGA_1_CLK_CTRL DIVISOR_1 (check_holds 21 (omega arith))))
      (mul-pos (field_runs FPGA_2_CLK_CTRL DIVISOR (check_holds 22 (omega arith))) (field_runs FPGA_2_CLK_CTRL DIVISOR_1 (check_holds 23 (omega arith))))
      (mul-pos (field_runs FPGA_3_CLK_CTRL DIVISOR (check_holds 24 (omega arith))) (field_runs FPGA_3_CLK_CTRL DIVISOR_1 (check_holds 25 (omega arith))))

  output_runs : 0 < crystal → (pll : PllType) → 0 < output_of (outputs crystal image) pll
  unfolding broken
  output_runs p Arm = pll_runs crystal (word image ARM_PLL_CTRL) p (field_runs ARM_PLL_CTRL FDIV (check_holds 0 (omega arith)))
  output_runs p Io = pll_runs crystal (word image IO_PLL_CTRL) p (field_runs IO_PLL_CTRL FDIV (check_holds 1 (omega arith)))
  output_runs p Ddr = pll_runs crystal (word image DDR_PLL_CTRL) p (field_runs DDR_PLL_CTRL FDIV (check_holds 2 (omega arith)))

  pub runs : 0 < crystal → (i : ℕ) → i < 4 → Runs (pl_clock (outputs crystal image) image i)
  runs p i h = (output_runs p (dual (word image (get_or pl_words i 0))).source, product_runs i h)
