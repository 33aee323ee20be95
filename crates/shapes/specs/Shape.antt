-- The words of a line after its request's name, read by a shape: a byte for each word, but `w` (119) for every further word to the
-- line's end, none being fine too.
use Rattle.std.specs.Prelude.{ℕ, zero, suc, ◌+◌, ◌-◌, ◌≡◌, cond, List, [], ◌∷◌, ◌++◌, eqb, length, Result, Ok, Err}
use Rattle.std.specs.Borrow.{Bor}
use Rattle.shapes.specs.Field.{field_of}
use Rattle.shapes.specs.Kind.{kind_of}
use Rattle.shapes.specs.declared.BadWord.{BadWord}
use Rattle.shapes.specs.declared.fields.Fault.{Fault}

-- numbers that the row has room for: more than a line of 1024 bytes can have
abbrev pub MOST : ℕ
MOST = 160

-- every word was read, or the word of this number has this fault
abbrev pub all : Result Unit BadWord
all = Ok tt

abbrev pub bad : ℕ → Fault → Result Unit BadWord
bad k f = Err (record { word = k; fault = f })

-- the numbers that were read, up to the fault if there is one
pub record Parsed : Type 0 where
  pub numbers : List ℕ
  pub end : Result Unit BadWord

abbrev pub stop : Result Unit BadWord → Parsed
stop e = record { numbers = []; end = e }

-- what one word was read as, and what is parsed of the words after it
abbrev pub then : ℕ → Result ℕ Fault → Parsed → Parsed
then k (Ok v) p = record { numbers = v ∷ p.numbers; end = p.end }
then k (Err f) p = stop (bad k f)

-- k is the number of the first of the words
unfoldable pub parse : List ℕ → ℕ → ℕ → List (List ℕ) → Parsed
parse [] room k [] = stop all
parse [] room k (word ∷ words) = stop (bad k Fault.OneTooMany)
parse (kind ∷ shape) room k [] = stop (cond (eqb kind 119) all (bad k Fault.Missing))
parse (kind ∷ shape) zero k (word ∷ words) = stop (bad k Fault.OneTooMany)
parse (kind ∷ shape) (suc room) k (word ∷ words) = then k (field_of (kind_of kind) word) (parse (cond (eqb kind 119) (kind ∷ shape) shape) room (k + 1) words)

-- the row has the numbers, and the answer the end
pub record Reads (p : Parsed) (row : List ℕ) (answer : Result Unit BadWord) : Type 0 where
  pub answer_is : answer ≡ p.end
  pub row_is : row ≡ p.numbers

-- a fault that is told without its word's number: the word behind the n that were read, and the name in front of these
abbrev pub counted : ℕ → Result Unit Fault → Result Unit BadWord
counted n (Ok _) = all
counted n (Err f) = bad (n + 2) f

-- numbers in front of what is parsed of the rest
abbrev pub front : List ℕ → Parsed → Parsed
front numbers p = record { numbers = numbers ++ p.numbers; end = p.end }

-- every word there is, so that the line ends at what is left of the shape
abbrev pub ReadsWords : List ℕ → List (List ℕ) → List ℕ → Result (Bor (List ℕ)) Fault → Type 0
ReadsWords shape words row (Ok left) = front row (parse left.now (MOST - length row) (length row + 2) []) ≡ parse shape MOST 2 words
ReadsWords shape words row (Err f) = Reads (parse shape MOST 2 words) row (bad (length row + 2) f)

-- one word, where `before` was read of the words in front: what is parsed of it and of any words behind it
abbrev pub ReadsWord : List ℕ → List ℕ → List ℕ → List ℕ → Result (Bor (List ℕ)) Fault → Type 0
ReadsWord shape word before after (Ok left) = (v : ℕ) × (after ≡ before ++ (v ∷ [])) × (length after ≡ length before + 1)
    × ((k : ℕ) (words : List (List ℕ)) → parse shape (MOST - length before) k (word ∷ words) ≡ then k (Ok v) (parse left.now (MOST - length after) (k + 1) words))
ReadsWord shape word before after (Err f) = (after ≡ before)
    × ((k : ℕ) (words : List (List ℕ)) → parse shape (MOST - length before) k (word ∷ words) ≡ stop (bad k f))
