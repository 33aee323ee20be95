-- The words of a line: what stands between its spaces. Two spaces in a row, or one at either end, make an empty word.
use Rattle.std.specs.Prelude.{ℕ, ◌+◌, ◌-◌, ◌≤◌, ◌<◌, ◌≡◌, Bool, true, false, cond, List, [], ◌∷◌, ◌++◌, eqb, length, get_or, take, drop, Option, Some, None}
use Rattle.std.specs.Borrow.{Bor}

-- a byte in front of the first word
abbrev pub before : ℕ → List (List ℕ) → List (List ℕ)
before c [] = (c ∷ []) ∷ []
before c (w ∷ ws) = (c ∷ w) ∷ ws

abbrev pub words : List ℕ → List (List ℕ)
words [] = [] ∷ []
words (c ∷ line) = cond (eqb c 32) ([] ∷ words line) (before c (words line))

-- the words after one: those behind the space that ends it, and none where no space does
abbrev pub further : Option (Bor (List ℕ)) → List (List ℕ)
further None = []
further (Some rest) = words rest.now

-- `end` is the first place of the byte from `from` on, or the line's end
pub record Until (line : List ℕ) (from byte end : ℕ) : Type 0 where
  pub begun : from ≤ end
  pub inside : end ≤ length line
  pub none_before : (k : ℕ) → k < end - from → get_or line (from + k) 0 ≡ byte → ⊥
  pub there : end < length line → get_or line end 0 ≡ byte

-- the same as an answer: a place within the line, or that there is none, as past its end
abbrev pub First : List ℕ → ℕ → ℕ → Option ℕ → Type 0
First line from byte (Some end) = Until line from byte end × (end < length line)
First line from byte None = from ≤ length line → Until line from byte (length line)

-- the bytes from `from` up to `end`
abbrev pub part : List ℕ → ℕ → ℕ → List ℕ
part line from end = take (end - from) (drop from line)

-- that part stands in front, as far as there is any, and behind it nothing has changed
abbrev pub Moved : List ℕ → ℕ → ℕ → List ℕ → ℕ → Type 0
Moved before from to after kept = (kept ≡ length (part before from to)) × (after ≡ part before from to ++ drop kept before)

abbrev pub equal : List ℕ → List ℕ → Bool
equal [] [] = true
equal [] (d ∷ name) = false
equal (c ∷ word) [] = false
equal (c ∷ word) (d ∷ name) = cond (eqb c d) (equal word name) false

-- the first place of a word among names, the first of which has place i
abbrev pub place_after : ℕ → List ℕ → List (List ℕ) → Option ℕ
place_after i word [] = None
place_after i word (name ∷ names) = cond (equal word name) (Some i) (place_after (i + 1) word names)

unfoldable pub place_of : List ℕ → List (List ℕ) → Option ℕ
place_of word names = place_after 0 word names
