-- The ratios in words of 32 bits: what is refused is refused, and else the table's numbers are the row's, each short enough. Assumes nothing.
use Prim.Native.Nat.{ℕ}
use mathlib.Core.Path.{◌≡◌, refl, ap, subst, subst⁻¹, ◌∙◌}
use mathlib.Core.List.{List, ◌++◌, append-nil}
use lib.ListN.{length, drop, replicate}
use Rattle.refusals.specs.Told.{answered, InWords}
use Rattle.handing.specs.Handed.{Given}
use Rattle.handing.proofs.Handing.{not_zero}
use Rattle.ratio_table.specs.declared.Ratio.{Ratio}
use Rattle.c_ratios.specs.Tells.{RatiosTells, TableOrRefusal, table, table_words}
use Rattle.c_ratios.proofs.Laws.{low, square}
use Rattle.c_ratios.proofs.Words.{words_long}
use Rattle.desk_calls.specs.Calls.{Low}

module _ (crystal : ℕ) (image : List ℕ) where
  abbrev Row : ℕ → List ℕ → Type 0
  Row r row = Given (RatiosTells crystal image) (replicate 32 0) r row

  refused : {row before : List ℕ} {r : ℕ} → Row r row → (r ≡ 0 → ⊥) → Given (RatiosTells crystal image) before r before
  refused (Given.refusal c t) n = Given.refusal c t
  refused (Given.answer t) n = absurd (n refl)

  pub no_table : {row before : List ℕ} {r q : ℕ} → Row r row → (r ≡ 0 → ⊥) → r ≡ q → Given (RatiosTells crystal image) before q before
  no_table {before = before} g n same = subst (λ (k : ℕ). Given (RatiosTells crystal image) before k before) same (refused g n)

  -- the row is the table's numbers and nothing behind them
  whole : {t : List (List Ratio)} → TableOrRefusal crystal image (answered t) → table_words t ++ drop (length (table_words t)) (replicate 32 0) ≡ table_words t
  whole {t} (table ok r) = rw (words_long (square crystal image ok r)) (append-nil (table_words t))

  pub low_row : {row : List ℕ} {r : ℕ} → Row r row → r ≡ 0 → Low row
  low_row (Given.refusal {number = n} {carried = carried} c t) z = absurd (not_zero n carried c z)
  low_row (Given.answer (InWords.answer {a = t} (table ok r))) z = subst⁻¹ Low (whole (table ok r)) (low crystal image ok r)

  pub a_table : {row before after : List ℕ} {r : ℕ} → Row r row → r ≡ 0 → after ≡ row ++ drop (length row) before → Given (RatiosTells crystal image) before 0 after
  a_table (Given.refusal {number = n} {carried = carried} c t) z e = absurd (not_zero n carried c z)
  a_table {before = before} {after} (Given.answer (InWords.answer {a = t} (table ok r))) z e =
      subst⁻¹ (Given (RatiosTells crystal image) before 0) (e ∙ ap (λ (l : List ℕ). l ++ drop (length l) before) (whole (table ok r)))
      (Given.answer (InWords.answer (table ok r)))
