-- What the ratios of an image are, as numbers: numerator and denominator of each, in row order, or the refusal.
use Rattle.std.specs.Prelude.{ℕ, ◌≡◌, List, [], ◌∷◌, ◌++◌}
use Rattle.refusals.specs.Told.{Told, answered, refused, InWords}
use Rattle.ratio_table.specs.declared.Ratio.{Ratio}
use Rattle.ratios.specs.Checked.{Right, checked, fine}

abbrev pub row_words : List Ratio → List ℕ
row_words [] = []
row_words (r ∷ row) = r.num ∷ r.den ∷ row_words row

abbrev pub table_words : List (List Ratio) → List ℕ
table_words [] = []
table_words (row ∷ table) = row_words row ++ table_words table

-- the table where the check call refuses nothing, and else its refusal
pub data TableOrRefusal (crystal : ℕ) (image : List ℕ) : Told (List (List Ratio)) → Type 0 where
  table : {t : List (List Ratio)} → checked crystal image ≡ answered fine → Right crystal image t → TableOrRefusal crystal image (answered t)
  refusal : {number : ℕ} {carried : List ℕ} → checked crystal image ≡ refused number carried → TableOrRefusal crystal image (refused number carried)

abbrev pub RatiosTells : ℕ → List ℕ → Told (List ℕ) → Type 0
RatiosTells crystal image = InWords table_words (TableOrRefusal crystal image)
