-- The ticks that really passed. A real count goes on for ever, and the counter shows its lowest 16 bits.
use Rattle.std.specs.Prelude.{ℕ, ◌+◌, ◌-◌, ◌%◌, ◌<◌, ◌≤◌, List, [], ◌∷◌, slice_index}
use Rattle.trace.specs.Counts.{RANGE, last_of}
use Rattle.trace.specs.Numbers.{Sample}

-- it never falls, and gains fewer than 65,536 ticks from one sample to the next
abbrev pub Runs : List ℕ → Type 0
Runs [] = Unit {0}
Runs (a ∷ []) = Unit {0}
Runs (a ∷ b ∷ real) = (a ≤ b) × (b < a + RANGE) × Runs (b ∷ real)

-- since the first sample
abbrev pub passed_ticks : List ℕ → ℕ
passed_ticks real = last_of 0 real - slice_index real 0

-- what the counters show
abbrev pub shown : List Sample → List Sample
shown [] = []
shown (real ∷ reals) = record { first = real.first % RANGE; second = real.second % RANGE } ∷ shown reals
