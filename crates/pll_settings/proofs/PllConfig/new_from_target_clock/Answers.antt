-- `PllConfig::new_from_target_clock` meets its contract: a crystal of 0 is refused, and any other gives the multiplier.
-- Assumes nothing.
use Rattle.std.proofs.Common.{◌≡◌, ℕ, sym, ◌∙◌, arith, Option, Some, None, Ok, Err, ok_or, SomeIff}
use Rattle.std.proofs.lemmas.Result.{err_from_is_err_and}
use Rattle.pll_settings.specs.declared.PllSettingError.{PllSettingError}
use Rattle.pll_settings.specs.declared.PllSettingError.TheVariants.{ZeroInput}
use Rattle.pll_settings.specs.Settings.{no_crystal, by_multiplier}
use Rattle.pll_settings.proofs.PllConfig.new_from_target_clock.Goals as goal

-- what a checked division was, where the `?` went on and where it did not
none : {P : Type 0} (v : ℕ) {e : PllSettingError} (o : Option ℕ) → SomeIff o P v → ok_or o ZeroInput ≡ Err e → (P → ⊥) × (ZeroInput ≡ e)
none v None h s = (h, cc)
none v (Some x) h s = cc

some : {P : Type 0} {v m : ℕ} (o : Option ℕ) → SomeIff o P v → ok_or o ZeroInput ≡ Ok m → P × (v ≡ m)
some None h s = cc
some (Some x) (p, e) s = (p, cc)

pub returns-in_err-pll_mul : goal.returns-in_err-pll_mul
returns-in_err-pll_mul c =
    let p = err_from_is_err_and c.from_residual.result c.from_residual.ensures.1 in
    let n = none _ c.checked_div.result c.checked_div.ensures (sym c.ok_or.ensures.value ∙ c.in_err-pll_mul.was) in
    rw (p.1, p.2, sym n.1) (no_crystal (let f = n.0 in omega arith))

pub returns : goal.returns
returns c =
    let s = some c.checked_div.result c.checked_div.ensures (sym c.ok_or.ensures.value ∙ c.in_ok-pll_mul.was) in
    by_multiplier s.0 (rw s.1 c.new.ensures)
