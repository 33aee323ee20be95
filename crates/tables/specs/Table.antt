-- Tests over a whole list, one entry after the other, and what it is to stand in a list.
use Rattle.std.specs.Prelude.{Bool, true, false, ◌&&◌, ◌||◌, ℕ, suc}
use mathlib.Core.List.{List, [], ◌∷◌, Memᴰ}

infix 50 ◌∈◌
-- x is an entry of the list
abbrev pub ◌∈◌ : {A : Type 0} → A → List A → Type 0
x ∈ xs = Memᴰ x xs

-- the test passes at every entry
abbrev pub all : {A : Type 0} → (A → Bool) → List A → Bool
all f [] = true
all f (x ∷ xs) = f x && all f xs

-- the test passes at some entry
abbrev pub any : {A : Type 0} → (A → Bool) → List A → Bool
any f [] = false
any f (x ∷ xs) = f x || any f xs

-- the test passes at every entry and its place, counted from i
abbrev pub each : {A : Type 0} → (ℕ → A → Bool) → ℕ → List A → Bool
each f i [] = true
each f i (x ∷ xs) = f i x && each f (suc i) xs
