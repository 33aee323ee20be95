-- Reading a word from its first digit on: what is known after i digits, what that comes to at the word's end, and how large the
-- number can be.
use mathlib.Core.Path.{◌≡◌, refl, sym, ap, ◌∙◌, subst}
use mathlib.Core.List.{List, [], ◌∷◌}
use Prim.Native.Nat.{ℕ, suc, ◌+◌, ◌*◌, ◌^◌, ◌≤◌, ◌<◌}
use native.Mathlib.Nat.{pow-suc, add-zero, lt_of_lt_of_le, pow-le-pow_right}
use native.Mathlib.Numerals.{add-one}
use native.Mathlib.Decide.{dec_lt}
use native.Mathlib.Omega.{arith}
use borrow.Author.Tests.{lt-ltb, le-ltb, ltb-true, eq-eqb, ne_eqb, eqb-true}
use lib.Dec.{lit<, ltb, eqb}
use lib.ListN.{length, drop}
use Rattle.std.specs.Prelude.{Option, Some, Result, Ok, Err, MatchResult}
use Rattle.std.specs.Char.{digit_value}
use Rattle.words.proofs.Choosing.{chosen, never}
use Rattle.words.specs.Reading.{fitting, number_after, number_of, hex_after, hex_of}
use Rattle.words.specs.declared.read.NumberError.{NumberError}
use Rattle.words.specs.declared.read.HexError.{HexError}

pub no_number : (radix : ℕ) (word : List ℕ) → length word ≡ 0 → Err NumberError.Empty ≡ number_of radix word
unfolding number_of
no_number radix [] h = refl
no_number radix (c ∷ word) h = absurd (omega arith)

some_number : (radix : ℕ) (word : List ℕ) → 0 < length word → number_of radix word ≡ number_after radix 0 word
unfolding number_of
some_number radix [] h = absurd (omega arith)
some_number radix (c ∷ word) h = refl

-- the first i digits came to a number, which is held as far as it fits, and that and the rest of the word stand for what the word stands for
pub record NumberTo (radix : ℕ) (word : List ℕ) (i : ℕ) (held : Option ℕ) : Type 0 where
  pub some : 0 < length word
  pub value : ℕ
  pub held_is : held ≡ fitting value
  pub rest : number_after radix value (drop i word) ≡ number_of radix word

pub number_none : (radix : ℕ) (word : List ℕ) → 0 < length word → NumberTo radix word 0 (Some 0)
number_none radix word h = record { some = h; value = 0; held_is = refl; rest = sym (some_number radix word h) }

-- one digit more
more_digits : (n v d : ℕ) → v < 16 ^ n → d < 16 → v * 16 + d < 16 ^ (n + 1)
more_digits n v d h l = subst (λ (m : ℕ). v * 16 + d < m) (sym (pow-suc 16 n) ∙ ap (λ (m : ℕ). 16 ^ m) (sym (add-one n))) (omega arith)

-- what is read as a number comes to the same as eight hex digits, or to no eight digits
abbrev pub eight : Result ℕ NumberError → Result ℕ HexError
eight (Ok v) = Ok v
eight (Err e) = Err HexError.NotEightDigits

hex_is : (n v : ℕ) (word : List ℕ) → v < 16 ^ n → n + length word ≤ 8 → hex_after v word ≡ eight (number_after 16 v word)
hex_is n v [] h l = simp (lt-ltb v (2 ^ 32) (lt_of_lt_of_le h (pow-le-pow_right {n = 16} (lit< tt) {j = 8} (omega arith))))
hex_is n v (c ∷ word) h l = elim (dec_lt (digit_value c) 16) [
  | yes d ↦ simp (lt-ltb (digit_value c) 16 d) (hex_is (n + 1) (v * 16 + digit_value c) word (more_digits n v (digit_value c) h d) (omega arith))
  | no d ↦ simp (le-ltb (digit_value c) 16 (omega arith))
]

pub no_hex : (word : List ℕ) → length word ≡ 0 → Err HexError.Empty ≡ hex_of word
unfolding hex_of
no_hex [] h = refl
no_hex (c ∷ word) h = absurd (omega arith)

pub eight_digits : (word : List ℕ) → length word ≡ 8 → eight (number_of 16 word) ≡ hex_of word
unfolding hex_of number_of
eight_digits [] h = absurd (omega arith)
eight_digits (c ∷ word) h = sym (simp (eq-eqb (length (c ∷ word)) 8 h) (hex_is 0 0 (c ∷ word) (lit< tt) (omega arith)))

pub not_eight : (word : List ℕ) → (length word ≡ 0 → ⊥) → (length word ≡ 8 → ⊥) → Err HexError.NotEightDigits ≡ hex_of word
unfolding hex_of
not_eight [] h n = absurd (h refl)
not_eight (c ∷ word) h n = simp (ne_eqb (length (c ∷ word)) 8 n)

hex_after_below : (n v : ℕ) (word : List ℕ) {u : ℕ} → v < 16 ^ n → hex_after v word ≡ Ok u → u < 16 ^ (n + length word)
hex_after_below n v [] {u} h e = let same : v ≡ u = cc in subst (λ (m : ℕ). u < 16 ^ m) (sym (add-zero n)) (omega arith)
hex_after_below n v (c ∷ word) {u} h e =
    chosen (ltb (digit_value c) 16) (λ t q. subst (λ (m : ℕ). u < 16 ^ m) longer (hex_after_below (n + 1) (v * 16 + digit_value c) word (more_digits n v (digit_value c) h (ltb-true (digit_value c) 16 t)) q)) (λ f q. never (cc)) e
  where
    longer : n + 1 + length word ≡ n + suc (length word)
    longer = omega arith

pub hex_below : (word : List ℕ) {u : ℕ} → hex_of word ≡ Ok u → u < 2 ^ 32
unfolding hex_of
hex_below [] e = never (cc)
hex_below (c ∷ word) {u} e =
    chosen (eqb (length (c ∷ word)) 8) (λ t q. subst (λ (m : ℕ). u < 16 ^ (0 + m)) (eqb-true (length (c ∷ word)) 8 t) (hex_after_below 0 0 (c ∷ word) (lit< tt) q)) (λ f q. never (cc)) e

-- any error told as the one
pub mapped : (r : Result ℕ NumberError) (s : Result ℕ HexError) → MatchResult r (λ v. s ≡ Ok v) (λ e. s ≡ Err HexError.NotEightDigits) → s ≡ eight r
mapped (Ok v) s h = h
mapped (Err e) s h = h
