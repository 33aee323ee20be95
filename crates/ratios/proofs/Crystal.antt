-- The crystal cancels: what a PLL gives is the crystal times a number that its control word alone has. Assumes nothing.
use Prim.Native.Nat.{ℕ, ◌*◌, ◌<◌, ◌≤◌}
use mathlib.Core.Path.{◌≡◌, refl, sym, ap, ◌∙◌}
use mathlib.Core.Bool.{Bool, true, false}
use mathlib.Core.List.{List}
use native.Mathlib.Nat.{le_trans, mul_assoc, mul-le-mul, mul-one, mul-pos, mul-zero, one-mul, pos_of_ne-zero, zero-mul}
use native.Mathlib.Omega.{arith}
use borrow.Author.Tests.{eqb-true, eqb-false}
use lib.ListN.{get_or}
use Rattle.refusals.specs.Told.{answered}
use Rattle.fields.specs.Word.{read_field}
use Rattle.fields.proofs.Laws.{read_lt}
use Rattle.registers.specs.declared.PllType.{PllType}
use Rattle.registers.specs.declared.PllType.TheVariants.{Arm, Ddr, Io}
use Rattle.registers.specs.Fields.{BYPASS_FORCE, FDIV}
use Rattle.registers.specs.Words.{word, ARM_PLL_CTRL, DDR_PLL_CTRL, IO_PLL_CTRL}
use Rattle.sources.specs.Clock.{dual}
use Rattle.sources.specs.Source.{bypassed, output_of, pll_output}
use Rattle.sources.proofs.Laws.{multiplied, passed_on}
use Rattle.evaluation.specs.Formulas.{outputs}
use Rattle.ratio_table.specs.declared.Ratio.{Ratio}
use Rattle.ratio_table.specs.declared.Undivided.{Undivided}
use Rattle.ratio_table.specs.Table.{Between, Runs, entry, over}
use Rattle.ratio_table.proofs.Entries.{same_table}
use Rattle.ratio_table.proofs.Laws.{one_between}
use Rattle.ratio_table.proofs.Lowest.{turned, unscaled, within}
use Rattle.ratios.specs.PlClocks.{pl_words}
use Rattle.ratios.specs.Checked.{fine, Right, checked, clock_at}
use Rattle.ratios.proofs.Checking.{accepted_runs}
use Rattle.ratios.proofs.Laws.{ratios_of}
use Rattle.ratios.proofs.Running.{product_small}

-- a PLL gives the crystal, or FDIV times the crystal
times_crystal : (crystal control : ℕ) → pll_output crystal control ≡ crystal * pll_output 1 control
times_crystal crystal control = by (bypassed control) refl
  where
    by : (b : Bool) → bypassed control ≡ b → pll_output crystal control ≡ crystal * pll_output 1 control
    by true e =
        let f = eqb-true (read_field control BYPASS_FORCE) 1 e in
        passed_on crystal control f ∙ sym (mul-one crystal) ∙ ap (λ (n : ℕ). crystal * n) (sym (passed_on 1 control f))
    by false e =
        let f = eqb-false (read_field control BYPASS_FORCE) 1 e in
        multiplied crystal control f ∙ ap (λ (n : ℕ). crystal * n) (sym (multiplied 1 control f ∙ one-mul (read_field control FDIV)))

-- and that number is at most 127
factor_small : (control : ℕ) → pll_output 1 control ≤ 127
factor_small control = by (bypassed control) refl
  where
    by : (b : Bool) → bypassed control ≡ b → pll_output 1 control ≤ 127
    by true e = omega (arith, passed_on 1 control (eqb-true (read_field control BYPASS_FORCE) 1 e))
    by false e =
        omega (arith, multiplied 1 control (eqb-false (read_field control BYPASS_FORCE) 1 e) ∙ one-mul (read_field control FDIV), read_lt control FDIV)

-- a product that is not 0 has no factor 0
factors : (a b : ℕ) → 0 < a * b → (0 < a) × (0 < b)
factors a b p = (
  pos_of_ne-zero λ e. omega (arith, p, ap (λ (n : ℕ). n * b) e ∙ zero-mul b),
  pos_of_ne-zero λ e. omega (arith, p, ap (λ (n : ℕ). a * n) e ∙ mul-zero a),
)

module _ (image : List ℕ) where
  -- PL clock i at a crystal of 1 Hz
  abbrev bare : ℕ → Undivided
  bare = clock_at 1 image

  source_scaled : (crystal : ℕ) (pll : PllType) → output_of (outputs crystal image) pll ≡ crystal * output_of (outputs 1 image) pll
  source_scaled crystal Arm = times_crystal crystal (word image ARM_PLL_CTRL)
  source_scaled crystal Ddr = times_crystal crystal (word image DDR_PLL_CTRL)
  source_scaled crystal Io = times_crystal crystal (word image IO_PLL_CTRL)

  source_small : (pll : PllType) → output_of (outputs 1 image) pll ≤ 127
  source_small Arm = factor_small (word image ARM_PLL_CTRL)
  source_small Ddr = factor_small (word image DDR_PLL_CTRL)
  source_small Io = factor_small (word image IO_PLL_CTRL)

  most : (i j : ℕ) → over (bare i) (bare j) ≤ 504063
  most i j = mul-le-mul {n₂ = 127} {m₂ = 3969} (source_small (dual (word image (get_or pl_words i 0))).source) (product_small (word image (get_or pl_words j 0)))

  module _ (crystal : ℕ) (ok : checked crystal image ≡ answered fine) where
    scaled : (i j : ℕ) → over (clock_at crystal image i) (clock_at crystal image j) ≡ crystal * over (bare i) (bare j)
    scaled i j =
        ap (λ (n : ℕ). n * (bare j).product) (source_scaled crystal (dual (word image (get_or pl_words i 0))).source)
        ∙ mul_assoc crystal (bare i).source (bare j).product

    factor_runs : (i : ℕ) → i < 4 → (0 < crystal) × (0 < (bare i).source)
    factor_runs i h = factors crystal (bare i).source (rw (source_scaled crystal (dual (word image (get_or pl_words i 0))).source) at (accepted_runs crystal image ok i h).0)

    bare_runs : (i : ℕ) → i < 4 → Runs (bare i)
    bare_runs i h = ((factor_runs i h).1, (accepted_runs crystal image ok i h).1)

    module _ {t : List (List Ratio)} (right : Right crystal image t) (i j : ℕ) (h : i < 4) (k : j < 4) where
      -- the entries are the ratios at 1 Hz
      pub at_one : Between (bare i) (bare j) (entry t i j)
      at_one =
          unscaled crystal (over (bare i) (bare j)) (over (bare j) (bare i)) (factor_runs i h).0
          (rw (scaled i j, scaled j i) at ((ratios_of crystal image ok right).each i h j k))

      -- no number is above 127 times 63 times 63
      pub small : ((entry t i j).num ≤ 504063) × ((entry t i j).den ≤ 504063)
      small = (
        le_trans (within (mul-pos (factor_runs i h).1 (bare_runs j k).1) at_one) (most i j),
        le_trans (within (mul-pos (factor_runs j k).1 (bare_runs i h).1) (turned at_one)) (most j i),
      )

  -- two crystals that are both accepted give the same table
  pub any_crystal : (c d : ℕ) → checked c image ≡ answered fine → checked d image ≡ answered fine → {t u : List (List Ratio)} → Right c image t → Right d image u → t ≡ u
  any_crystal c d okc okd r s =
      same_table (ratios_of c image okc r).square (ratios_of d image okd s).square
      (λ i j h k. one_between (bare_runs c okc i h) (bare_runs c okc j k) (at_one c okc r i j h k) (at_one d okd s i j h k))
