-- Four clocks and the table of their ratios: row i, column j is clock i to clock j.
use Rattle.std.specs.Prelude.{ℕ, ◌*◌, ◌<◌, ◌≡◌, List, [], ◌∷◌, get_or, length, replicate}
use Rattle.ratio_table.specs.declared.Above.{Above}
use Rattle.ratio_table.specs.declared.Ratio.{Ratio}
use Rattle.ratio_table.specs.declared.Undivided.{Undivided}
use Rattle.ratio_table.specs.Lowest.{Lowest, Reduced, ratio, inverse}

-- a clock that runs: neither its source nor its divisors' product is 0
abbrev pub Runs : Undivided → Type 0
Runs a = (0 < a.source) × (0 < a.product)

-- a clock is its source s over its product p, so that clock a to clock b is s_a p_b to s_b p_a
abbrev pub over : Undivided → Undivided → ℕ
over a b = a.source * b.product

abbrev pub Between : Undivided → Undivided → Ratio → Type 0
Between a b r = Lowest (over a b) (over b a) r

abbrev pub entry : List (List Ratio) → ℕ → ℕ → Ratio
entry table i j = get_or (get_or table i []) j (ratio 0 0)

-- four rows of four
pub record Square (table : List (List Ratio)) : Type 0 where
  pub rows : length table ≡ 4
  pub columns : (i : ℕ) → i < 4 → length (get_or table i []) ≡ 4

-- every entry is the ratio of its row's clock to its column's
pub record Ratios (clock : ℕ → Undivided) (table : List (List Ratio)) : Type 0 where
  pub square : Square table
  pub each : (i : ℕ) → i < 4 → (j : ℕ) → j < 4 → Between (clock i) (clock j) (entry table i j)

-- 0 to 0 everywhere
abbrev pub none : List (List Ratio)
none = replicate 4 (replicate 4 (ratio 0 0))

-- a table by its diagonal and the six ratios above it; below it they are turned round
abbrev pub mirror : Ratio → Above → List (List Ratio)
mirror one a =
    (one ∷ a.r01 ∷ a.r02 ∷ a.r03 ∷ [])
    ∷ (inverse a.r01 ∷ one ∷ a.r12 ∷ a.r13 ∷ [])
    ∷ (inverse a.r02 ∷ inverse a.r12 ∷ one ∷ a.r23 ∷ [])
    ∷ (inverse a.r03 ∷ inverse a.r13 ∷ inverse a.r23 ∷ one ∷ [])
    ∷ []

-- the six of any four clocks, those that do not run too
abbrev pub Compared : Undivided → Undivided → Ratio → Type 0
Compared a b r = Reduced (over a b) (over b a) r

pub record Six (a b c d : Undivided) (six : Above) : Type 0 where
  pub r01 : Compared a b six.r01
  pub r02 : Compared a c six.r02
  pub r03 : Compared a d six.r03
  pub r12 : Compared b c six.r12
  pub r13 : Compared b d six.r13
  pub r23 : Compared c d six.r23

-- the table that these six make, with 1 to 1 on its diagonal
pub data Mirrored (a b c d : Undivided) : List (List Ratio) → Type 0 where
  mirrored : {six : Above} → Six a b c d six → Mirrored a b c d (mirror (ratio 1 1) six)
