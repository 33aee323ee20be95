-- Evaluation refuses a PLL exactly when specs/ says: its first six checks are the PLLs', and no later one names them. Assumes nothing.
use Prim.Native.Nat.{ℕ, ◌*◌, ◌^◌, ◌<◌}
use mathlib.Core.Path.{◌≡◌, ◌∙◌, refl, sym}
use mathlib.Core.Logic.{◌⊎◌, ⊎_map, ◌↔◌}
use mathlib.Core.Bool.{Bool, true, false}
use mathlib.Core.List.{List, [], ◌∷◌, ◌++◌}
use native.Mathlib.Omega.{arith}
use borrow.Author.Tests.{eq-eqb, eqb-true, eqb-false, lt-ltb, ltb-true}
use lib.Dec.{eqb}
use lib.ListN.{length}
use Rattle.refusals.specs.Told.{Told, answered, refused}
use Rattle.refusals.specs.Number.{BAD_IMAGE, DIVISOR_ZERO, OVERFLOW}
use Rattle.fields.specs.Word.{read_field}
use Rattle.registers.specs.Fields.{BYPASS_FORCE, FDIV}
use Rattle.registers.specs.Words.{word, WORDS, ARM_PLL_CTRL, IO_PLL_CTRL, DDR_PLL_CTRL}
use Rattle.sources.specs.Source.{bypassed, pll_output}
use Rattle.sources.proofs.Laws.{passed_on, multiplied}
use Rattle.clocks.specs.declared.Clocks.{Clocks}
use Rattle.checks.specs.declared.Check.{Check}
use Rattle.checks.specs.Check.{broken, checks, cpu_ddr_checks, io_checks, overflows, pl_checks, reason, zero}
use Rattle.evaluation.specs.Evaluated.{evaluated, judged, pick_told}
use Rattle.evaluation.specs.Formulas.{clocks_of}
use Rattle.bypass.specs.Refused.{FdivZero, TooFast, Some, PllZero, PllOverflow}
use Rattle.bypass.proofs.InTurn.{module_of, in_turn, told_in_turn, elsewhere, Any, thrice, two, three, is_two, is_three}

each : {A B C X Y Z : Type 0} → A ↔ X → B ↔ Y → C ↔ Z → (A ⊎ (B ⊎ C)) ↔ (X ⊎ (Y ⊎ Z))
each f g h = (⊎_map f.0 (⊎_map g.0 h.0), ⊎_map f.1 (⊎_map g.1 h.1))

-- what comes after the PLLs' six checks
later : List Check
later = cpu_ddr_checks ++ io_checks ++ pl_checks

-- ---- a test as evaluation makes it, and what specs/ says of the word

module _ (crystal : ℕ) (image : List ℕ) where
  is_zero : (at : ℕ) → (zero image at FDIV ≡ true) ↔ FdivZero (word image at)
  is_zero at = (eqb-true (read_field (word image at) FDIV) 0, eq-eqb (read_field (word image at) FDIV) 0)

  some_zero : Any (zero image ARM_PLL_CTRL FDIV) (zero image IO_PLL_CTRL FDIV) (zero image DDR_PLL_CTRL FDIV) ↔ Some FdivZero image
  some_zero = each (is_zero ARM_PLL_CTRL) (is_zero IO_PLL_CTRL) (is_zero DDR_PLL_CTRL)

  is_too_fast : crystal < 2 ^ 32 → (at : ℕ) → (overflows crystal image at ≡ true) ↔ TooFast crystal (word image at)
  is_too_fast h at = (λ e. from (bypassed (word image at)) refl (ltb-true 4294967295 (pll_output crystal (word image at)) e), to)
    where
      product : bypassed (word image at) ≡ false → pll_output crystal (word image at) ≡ crystal * read_field (word image at) FDIV
      product q = multiplied crystal (word image at) (eqb-false (read_field (word image at) BYPASS_FORCE) 1 q)

      -- the crystal itself fits
      from : (b : Bool) → bypassed (word image at) ≡ b → 4294967295 < pll_output crystal (word image at) → TooFast crystal (word image at)
      from true q f = absurd (omega (arith, f, passed_on crystal (word image at) (eqb-true (read_field (word image at) BYPASS_FORCE) 1 q), h))
      from false q f = (q, rw (product q) at f)

      to : TooFast crystal (word image at) → overflows crystal image at ≡ true
      to f = lt-ltb 4294967295 (pll_output crystal (word image at)) (rw (product f.0) f.1)

  too_fast : crystal < 2 ^ 32 →
      Any (overflows crystal image ARM_PLL_CTRL) (overflows crystal image IO_PLL_CTRL) (overflows crystal image DDR_PLL_CTRL)
      ↔ Some (TooFast crystal) image
  too_fast h = each (is_too_fast h ARM_PLL_CTRL) (is_too_fast h IO_PLL_CTRL) (is_too_fast h DDR_PLL_CTRL)

-- ---- the checks

module _ (crystal : ℕ) (image : List ℕ) where
  -- what is told of an image of 50 words
  abbrev pub of_checks : Told Clocks
  of_checks = judged (reason crystal image) (answered (clocks_of crystal image))

  abbrev then_told : Told Clocks
  then_told = in_turn (broken crystal image) (clocks_of crystal image) later

  none_other : module_of then_told ≡ 0 → ⊥
  unfolding later
  none_other = elsewhere (broken crystal image) (clocks_of crystal image) later refl

  by_checks :
      of_checks
      ≡ thrice (zero image ARM_PLL_CTRL FDIV) (zero image IO_PLL_CTRL FDIV) (zero image DDR_PLL_CTRL FDIV) two
      (thrice (overflows crystal image ARM_PLL_CTRL) (overflows crystal image IO_PLL_CTRL) (overflows crystal image DDR_PLL_CTRL) three
      then_told)
  unfolding reason broken later
  by_checks = told_in_turn (broken crystal image) (clocks_of crystal image) checks

  checks_say_two : (of_checks ≡ two) ↔ Some FdivZero image
  checks_say_two =
      let o = overflows crystal image in
      let i = is_two _ _ _ (o ARM_PLL_CTRL) (o IO_PLL_CTRL) (o DDR_PLL_CTRL) then_told none_other in
      let d = some_zero crystal image in
      (λ e. d.0 (i.0 (sym by_checks ∙ e)), λ s. by_checks ∙ i.1 (d.1 s))

  checks_say_three : crystal < 2 ^ 32 → (of_checks ≡ three) ↔ ((Some FdivZero image → ⊥) × Some (TooFast crystal) image)
  checks_say_three h =
      let z : ℕ → Bool = λ at. zero image at FDIV in
      let i = is_three (z ARM_PLL_CTRL) (z IO_PLL_CTRL) (z DDR_PLL_CTRL) _ _ _ then_told none_other in
      let d = some_zero crystal image in
      let t = too_fast crystal image h in (
        λ e. let f = i.0 (sym by_checks ∙ e) in (λ s. f.0 (d.1 s), t.0 f.1),
        λ f. by_checks ∙ i.1 (λ s. f.0 (d.0 s), t.1 f.1),
      )

  -- whatever is told but 1 is what the checks say of an image of 50 words
  pub of_50 : (t : Told Clocks) → (refused BAD_IMAGE [] ≡ t → ⊥) → evaluated crystal image ≡ t → (length image ≡ WORDS) × (of_checks ≡ t)
  unfolding evaluated
  of_50 t other e = by (eqb (length image) WORDS) refl e
    where
      by : (b : Bool) → eqb (length image) WORDS ≡ b → pick_told b of_checks (refused BAD_IMAGE []) ≡ t → (length image ≡ WORDS) × (of_checks ≡ t)
      by true q e = (eqb-true (length image) WORDS q, e)
      by false q e = absurd (other e)

  by_50 : length image ≡ WORDS → evaluated crystal image ≡ of_checks
  unfolding evaluated
  by_50 h = rw (eq-eqb (length image) WORDS h)

  -- ---- the laws

  -- an FDIV of 0, its PLL bypassed or not, whatever the crystal is
  pub refusal_2_pll : (evaluated crystal image ≡ refused DIVISOR_ZERO (0 ∷ [])) ↔ PllZero image
  refusal_2_pll = (
    λ e. let w = of_50 two (λ f. let z : ◌≡◌ {A = ℕ} 1 2 = cc in omega arith) e in record { whole = w.0; some_zero = checks_say_two.0 w.1 },
    λ r. by_50 r.whole ∙ checks_say_two.1 r.some_zero,
  )

  -- no FDIV is 0, and the product of a PLL that is not bypassed passes 32 bits, for every crystal of 32 bits
  pub refusal_3 : crystal < 2 ^ 32 → (evaluated crystal image ≡ refused OVERFLOW (0 ∷ [])) ↔ PllOverflow crystal image
  refusal_3 h = (
    λ e.
        let w = of_50 three (λ f. let z : ◌≡◌ {A = ℕ} 1 3 = cc in omega arith) e in
        let f = (checks_say_three h).0 w.1 in
        record { whole = w.0; none_zero = f.0; too_fast = f.1 },
    λ r. by_50 r.whole ∙ (checks_say_three h).1 (r.none_zero, r.too_fast),
  )
