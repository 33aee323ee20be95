-- A ratio of two numbers, in lowest terms.
use Rattle.std.specs.Prelude.{ℕ, ◌+◌, ◌*◌, ◌<◌, ◌≡◌}
use Rattle.gcd.specs.Common.{Coprime}
use Rattle.ratio_table.specs.declared.Ratio.{Ratio}

abbrev pub ratio : ℕ → ℕ → Ratio
ratio num den = record { num = num; den = den }

abbrev pub inverse : Ratio → Ratio
inverse r = ratio r.den r.num

-- r is x to y as a fraction, and no number but 1 divides both of its numbers
pub record Lowest (x y : ℕ) (r : Ratio) : Type 0 where
  pub equal : r.num * y ≡ x * r.den
  pub lowest : Coprime r.num r.den

-- for any two numbers: 0 to 0 has no lowest terms, and stays
pub data Reduced (x y : ℕ) : Ratio → Type 0 where
  to_lowest : {r : Ratio} → 0 < x + y → Lowest x y r → Reduced x y r
  no_terms : x + y ≡ 0 → Reduced x y (ratio 0 0)
