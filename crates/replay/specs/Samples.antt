-- The bytes of a trace: four a sample, the first channel's count and then the second's.
use Rattle.std.specs.Prelude.{ℕ, ◌+◌, ◌*◌, List, [], ◌∷◌}
use Rattle.trace.specs.Numbers.{Sample}

-- the low byte comes first
abbrev pub count : ℕ → ℕ → ℕ
count low high = low + high * 256

-- the whole samples
abbrev pub samples_of : List ℕ → List Sample
samples_of (a ∷ b ∷ c ∷ d ∷ bytes) = record { first = count a b; second = count c d } ∷ samples_of bytes
samples_of (a ∷ b ∷ c ∷ []) = []
samples_of (a ∷ b ∷ []) = []
samples_of (a ∷ []) = []
samples_of [] = []

-- and the bytes, three at most, of one that has not ended
abbrev pub left_of : List ℕ → List ℕ
left_of (a ∷ b ∷ c ∷ d ∷ bytes) = left_of bytes
left_of (a ∷ b ∷ c ∷ []) = a ∷ b ∷ c ∷ []
left_of (a ∷ b ∷ []) = a ∷ b ∷ []
left_of (a ∷ []) = a ∷ []
left_of [] = []
