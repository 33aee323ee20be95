-- Each number that is parsed is at most the largest of its kind, and what the row and the answer tell of it.
use mathlib.Core.Path.{◌≡◌, refl}
use mathlib.Core.Bool.{cond}
use mathlib.Core.List.{List, [], ◌∷◌}
use Prim.Native.Nat.{ℕ, zero, suc, ◌+◌, ◌^◌, ◌≤◌, ◌<◌, zero-le}
use native.Mathlib.Omega.{arith}
use borrow.Author.Tests.{ltb-false}
use lib.Dec.{eqb, ltb, lit≤}
use lib.ListN.{length, get_or}
use Rattle.std.specs.Prelude.{Option, Some, None, Result, Ok, Err}
use Rattle.text.specs.Bytes.{bytes}
use Rattle.words.specs.Reading.{hex_of, decimal_of}
use Rattle.words.specs.Words.{words, place_of}
use Rattle.words.specs.declared.read.NumberError.{NumberError}
use Rattle.words.specs.declared.read.HexError.{HexError}
use Rattle.words.proofs.Choosing.{chosen, never}
use Rattle.words.proofs.Reading.{hex_below}
use Rattle.words.proofs.Splitting.{place_below}
use Rattle.shapes.specs.Field.{up_to, eight_digits, known, name, field_of}
use Rattle.shapes.specs.Kind.{kind_of}
use Rattle.shapes.specs.Shape.{Parsed, then, parse}
use Rattle.shapes.specs.declared.fields.Fault.{Fault}
use Rattle.shapes.specs.declared.kind.Kind.{Kind}

-- the largest number of a kind
abbrev pub largest : Kind → ℕ
largest Kind.Register = 4294967295
largest Kind.Speed = 1
largest Kind.Pll = 2
largest Kind.Flag = 1
largest Kind.Byte = 255
largest Kind.HalfWord = 65535
largest Kind.Number = 4294967295

within_most : (m : ℕ) (n : Result ℕ NumberError) {v : ℕ} → up_to m n ≡ Ok v → v ≤ m
within_most m (Ok u) {v} e = chosen (ltb m u) (λ t q. never (cc)) (λ f q. let same : u ≡ v = cc in omega (arith, ltb-false m u f)) e
within_most m (Err f) e = never (cc)

within_32 : (word : List ℕ) (h : Result ℕ HexError) {v : ℕ} → hex_of word ≡ h → eight_digits h ≡ Ok v → v ≤ 4294967295
within_32 word (Ok u) {v} h e = let same : u ≡ v = cc in omega (arith, hex_below word h)
within_32 word (Err f) h e = never (cc)

among : (names : List (List ℕ)) (word : List ℕ) (p : Option ℕ) {v : ℕ} → place_of word names ≡ p → known p ≡ Ok v → v < length names
among names word (Some i) {v} h e = let same : i ≡ v = cc in omega (arith, place_below word names h)
among names word None h e = never (cc)

within_names : (names : List (List ℕ)) (word : List ℕ) {v : ℕ} → name names word ≡ Ok v → v < length names
unfolding name
within_names names [] e = never (cc)
within_names names (c ∷ word) e = among names (c ∷ word) (place_of (c ∷ word) names) refl e

pub field_most : (kind : Kind) (word : List ℕ) {v : ℕ} → field_of kind word ≡ Ok v → v ≤ largest kind
field_most Kind.Register word e = within_32 word (hex_of word) refl e
field_most Kind.Speed word {v} e = omega (arith, within_names (words (bytes "normal fast")) word {v = v} e)
field_most Kind.Pll word {v} e = omega (arith, within_names (words (bytes "arm ddr io")) word {v = v} e)
field_most Kind.Flag word e = within_most 1 (decimal_of word) e
field_most Kind.Byte word e = within_most 255 (decimal_of word) e
field_most Kind.HalfWord word e = within_most 65535 (decimal_of word) e
field_most Kind.Number word e = within_most 4294967295 (decimal_of word) e

-- the kind of the i-th number
abbrev pub kind_at : ℕ → List ℕ → Kind
kind_at zero [] = Kind.Register
kind_at zero (kind ∷ shape) = kind_of kind
kind_at (suc i) [] = Kind.Register
kind_at (suc i) (kind ∷ shape) = kind_at i (cond (eqb kind 119) (kind ∷ shape) shape)

first_most : (k : ℕ) (f : Result ℕ Fault) (p : Parsed) (m : ℕ) → ((v : ℕ) → f ≡ Ok v → v ≤ m) → get_or (then k f p).numbers 0 0 ≤ m
first_most k (Ok v) p m h = h v refl
first_most k (Err f) p m h = zero-le

other_most : (k : ℕ) (f : Result ℕ Fault) (p : Parsed) (i m : ℕ) → get_or p.numbers i 0 ≤ m → get_or (then k f p).numbers (suc i) 0 ≤ m
other_most k (Ok v) p i m h = h
other_most k (Err f) p i m h = zero-le

pub numbers_most : (shape : List ℕ) (room k : ℕ) (words : List (List ℕ)) (i : ℕ) → get_or (parse shape room k words).numbers i 0 ≤ largest (kind_at i shape)
unfolding parse
numbers_most [] room k [] i = zero-le
numbers_most [] room k (word ∷ words) i = zero-le
numbers_most (kind ∷ shape) room k [] i = zero-le
numbers_most (kind ∷ shape) zero k (word ∷ words) i = zero-le
numbers_most (kind ∷ shape) (suc room) k (word ∷ words) zero = first_most k (field_of (kind_of kind) word) (parse (cond (eqb kind 119) (kind ∷ shape) shape) room (k + 1) words) (largest (kind_of kind)) (λ v e. field_most (kind_of kind) word e)
numbers_most (kind ∷ shape) (suc room) k (word ∷ words) (suc i) =
    let next : List ℕ = cond (eqb kind 119) (kind ∷ shape) shape in
    other_most k (field_of (kind_of kind) word) (parse next room (k + 1) words) i (largest (kind_at i next)) (numbers_most next room (k + 1) words i)

largest_below : (kind : Kind) → largest kind ≤ 4294967295
largest_below Kind.Register = lit≤ tt
largest_below Kind.Speed = lit≤ tt
largest_below Kind.Pll = lit≤ tt
largest_below Kind.Flag = lit≤ tt
largest_below Kind.Byte = lit≤ tt
largest_below Kind.HalfWord = lit≤ tt
largest_below Kind.Number = lit≤ tt

pub numbers_below : (shape : List ℕ) (room k : ℕ) (words : List (List ℕ)) (i : ℕ) → get_or (parse shape room k words).numbers i 0 < 2 ^ 32
numbers_below shape room k words i = omega (arith, numbers_most shape room k words i, largest_below (kind_at i shape))
