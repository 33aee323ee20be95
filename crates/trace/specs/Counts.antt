-- One channel's counts, and the ticks that they tell. A counter of 16 bits runs on from 65,535 to 0, so that only the step from one count
-- to the next says how many ticks passed.
use Rattle.std.specs.Prelude.{ℕ, ◌+◌, ◌-◌, ◌%◌, List, [], ◌∷◌}

abbrev pub RANGE : ℕ
RANGE = 65_536

-- from one count to the next, modulo the counter's range
unfoldable pub step : ℕ → ℕ → ℕ
step from to = (to + (RANGE - from % RANGE)) % RANGE

-- the sum of the steps between neighbouring counts
abbrev pub ticks : List ℕ → ℕ
ticks [] = 0
ticks (count ∷ []) = 0
ticks (count ∷ next ∷ counts) = step count next + ticks (next ∷ counts)

-- the last of some counts, or another number where there are none
abbrev pub last_of : ℕ → List ℕ → ℕ
last_of other [] = other
last_of other (count ∷ counts) = last_of count counts
