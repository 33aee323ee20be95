-- A GEM clock of an image: what evaluation refuses is refused, and else GEM is told the record's own row. Assumes nothing.
use Prim.Native.Nat.{ℕ}
use mathlib.Core.Path.{◌≡◌, refl, sym, subst}
use mathlib.Core.Bool.{Bool}
use mathlib.Core.List.{List}
use Rattle.refusals.specs.Told.{InWords}
use Rattle.handing.specs.Handed.{Given}
use Rattle.handing.proofs.Handing.{given_by, not_zero}
use Rattle.c_clocks.specs.Tells.{ClocksTells}
use Rattle.c_gem.specs.Tells.{GemTells}
use Rattle.desk_calls.specs.Calls.{GemOfImage, not_evaluated, of_record}

module _ (second : Bool) (word crystal : ℕ) (image : List ℕ) where
  refused : {zeros row before : List ℕ} {r : ℕ} → Given (ClocksTells crystal image) zeros r row → (r ≡ 0 → ⊥) → Given (GemOfImage second word crystal image) before r before
  refused (Given.refusal c (InWords.refusal e)) n = Given.refusal c (not_evaluated (sym e))
  refused (Given.answer t) n = absurd (n refl)

  pub no_record : {zeros row before : List ℕ} {r q : ℕ} → Given (ClocksTells crystal image) zeros r row → (r ≡ 0 → ⊥) → r ≡ q → Given (GemOfImage second word crystal image) before q before
  no_record {before = before} g n same = subst (λ (k : ℕ). Given (GemOfImage second word crystal image) before k before) same (refused g n)

  pub a_record : {zeros row before after : List ℕ} {told r : ℕ} → Given (ClocksTells crystal image) zeros told row → told ≡ 0 → Given (GemTells second word row) before r after →
      Given (GemOfImage second word crystal image) before r after
  a_record (Given.refusal {number = n} {carried = carried} c t) z g = absurd (not_zero n carried c z)
  a_record (Given.answer (InWords.answer e)) z g = given_by (λ t h. of_record (sym e) h) g
