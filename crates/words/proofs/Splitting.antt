-- A line's words are the parts that `split` gives at spaces; its first word; and looking a word up among names.
use mathlib.Core.Path.{◌≡◌, refl, sym, ap, ◌∙◌, subst}
use mathlib.Core.Bool.{Bool, true, false, cond}
use mathlib.Core.Logic.{◌⊎◌, inl, inr}
use mathlib.Core.List.{List, [], ◌∷◌}
use Prim.Native.Nat.{ℕ, zero, suc, ◌+◌, ◌-◌, ◌<◌, ◌≤◌, suc-le-suc, zero-le}
use native.Mathlib.Nat.{le_of_suc-le-suc, add-zero, zero-add}
use native.Mathlib.Decide.{dec_le}
use native.Mathlib.Omega.{arith}
use borrow.Author.Tests.{eq-eqb, ne_eqb, eqb-true}
use lib.Dec.{eqb}
use lib.ListN.{length, get_or, take, drop, length-drop}
use lib.Seq.{take-length}
use Rattle.std.specs.Prelude.{Option, Some, None, MatchOption}
use denote.Param.Members.{Mut}
use Rattle.std.specs.Borrow.{Bor}
use Rattle.std.specs.Fn.{CalledAt}
use Rattle.std.specs.Slice.Iter.{split_rest, split_done, split_callee, split_steps}
use Rattle.std.proofs.lemmas.Iterator.{YieldsList}
use Rattle.std.proofs.lemmas.Iterator.Splits.{YieldsList-from_slice_split}
use Rattle.std.specs.List.{slice_split, onto_first, AllWithin, HoldsAt}
use Rattle.words.proofs.Choosing.{chosen, never}
use Rattle.words.specs.Words.{before, words, Until, First, equal, place_after, place_of}

before_is : (c : ℕ) (ws : List (List ℕ)) → before c ws ≡ onto_first c ws
before_is c [] = refl
before_is c (w ∷ ws) = refl

pub words_split : (line : List ℕ) → slice_split (λ c. eqb c 32) line ≡ words line
words_split [] = refl
words_split (c ∷ line) = rw (words_split line, before_is c (words line))

-- what `split` at spaces yields
pub words_yielded : {F : Type 0} {s : _} (g : Mut F (Bor ℕ × Unit {0}) Bool) {f : F} (line : List ℕ) → split_rest s ≡ line → split_done s ≡ false → split_callee s ≡ f → ((x : ℕ) (b : Bool) (q : F) → CalledAt g f x b q → (q ≡ f) × (b ≡ eqb x 32)) → YieldsList (split_steps g) (λ x. x.now) s (words line)
words_yielded {s = s} g line rest done callee called =
    subst (λ (ws : List (List ℕ)). YieldsList (split_steps g) (λ x. x.now) s ws) (words_split line) (YieldsList-from_slice_split {s = s} g (λ b. eqb b 32) line rest done callee called)

-- up to the first space is a word
pub cut : (n : ℕ) (line : List ℕ) → n < length line → ((k : ℕ) → k < n → get_or line k 0 ≡ 32 → ⊥) → get_or line n 0 ≡ 32 → words line ≡ take n line ∷ words (drop (n + 1) line)
cut zero [] h none stop = absurd (omega arith)
cut zero (c ∷ line) h none stop = simp (eq-eqb c 32 stop)
cut (suc n) [] h none stop = absurd (omega arith)
cut (suc n) (c ∷ line) h none stop =
    simp (ne_eqb c 32 (none 0 (suc-le-suc zero-le)))
    (ap (before c) (cut n line (le_of_suc-le-suc h) (λ k l. none (suc k) (suc-le-suc l)) stop) ∙ ap (λ (m : ℕ). (c ∷ take n line) ∷ words (drop m (c ∷ line))) next)
  where
    next : suc (n + 1) ≡ suc n + 1
    next = omega arith

-- and where there is none, the line is one
pub one_word : (line : List ℕ) → ((k : ℕ) → k < length line → get_or line k 0 ≡ 32 → ⊥) → words line ≡ line ∷ []
one_word [] none = refl
one_word (c ∷ line) none =
    simp (ne_eqb c 32 (none 0 (suc-le-suc zero-le))) (ap (before c) (one_word line (λ k l. none (suc k) (suc-le-suc l))))

-- what is left from a place on, as far as the line goes
pub all_left : (n : ℕ) (line : List ℕ) → drop n line ≡ take (length line - n) (drop n line)
all_left n line = sym (ap (λ (m : ℕ). take m (drop n line)) (sym (length-drop n line)) ∙ take-length (drop n line))

pub first_cut : (line : List ℕ) (end : ℕ) → First line 0 32 (Some end) → words line ≡ take end line ∷ words (take (length line - (end + 1)) (drop (end + 1) line))
first_cut line end f = cut end line f.1 (λ k h e. f.0.none_before k (omega arith) (ap (λ (j : ℕ). get_or line j 0) (zero-add k) ∙ e)) (f.0.there f.1) ∙ ap (λ (rest : List ℕ). take end line ∷ words rest) (all_left (end + 1) line)

pub first_whole : (line : List ℕ) → First line 0 32 None → words line ≡ line ∷ []
first_whole line f = let u = f zero-le in one_word line (λ k h e. u.none_before k (omega arith) (ap (λ (j : ℕ). get_or line j 0) (zero-add k) ∙ e))

-- looking a word up
equal_same : (word : List ℕ) → equal word word ≡ true
equal_same [] = refl
equal_same (c ∷ word) = simp (eq-eqb c c refl) (equal_same word)

unless_both : (test : Bool) {x : Bool} → (test ≡ true → x ≡ false) → cond test x false ≡ false
unless_both true h = h refl
unless_both false h = refl

not_equal : (word name : List ℕ) → (name ≡ word → ⊥) → equal word name ≡ false
not_equal [] [] n = absurd (n refl)
not_equal [] (d ∷ name) n = refl
not_equal (c ∷ word) [] n = refl
not_equal (c ∷ word) (d ∷ name) n = unless_both (eqb c d) (λ t. not_equal word name (λ q. n (let h = eqb-true c d t in cc)))

nowhere : (i : ℕ) (word : List ℕ) (names : List (List ℕ)) → AllWithin (λ name. name ≡ word → ⊥) names 0 (length names) → None ≡ place_after i word names
nowhere i word [] none = refl
nowhere i word (name ∷ names) none =
    simp (not_equal word name (none 0 [] zero-le (suc-le-suc zero-le)))
    (nowhere (i + 1) word names (λ k d z l. none (suc k) d zero-le (suc-le-suc l)))

somewhere : (i j : ℕ) (word : List ℕ) (names : List (List ℕ)) → j < length names → get_or names j [] ≡ word → AllWithin (λ name. name ≡ word → ⊥) names 0 j → Some (i + j) ≡ place_after i word names
somewhere i j word [] h here none = absurd (omega arith)
somewhere i zero word (name ∷ names) h here none = simp (here, equal_same word) (ap Some (add-zero i))
somewhere i (suc j) word (name ∷ names) h here none =
    simp (not_equal word name (none 0 [] zero-le (suc-le-suc zero-le)))
    (ap Some further ∙ somewhere (i + 1) j word names (le_of_suc-le-suc h) here (λ k d z l. none (suc k) d zero-le (suc-le-suc l)))
  where
    further : i + suc j ≡ i + 1 + j
    further = omega arith

-- what `position` says of the first name that is the word
pub placed : (word : List ℕ) (names : List (List ℕ)) (r : Option ℕ) → MatchOption r (AllWithin (λ name. name ≡ word → ⊥) names 0 (length names)) (λ i. (i < length names) × HoldsAt (λ name. name ≡ word) names i × AllWithin (λ name. name ≡ word → ⊥) names 0 i) → r ≡ place_of word names
unfolding place_of
placed word names None none = nowhere 0 word names none
placed word names (Some j) found = ap Some start ∙ somewhere 0 j word names found.0 (found.1 []) found.2
  where
    start : j ≡ 0 + j
    start = omega arith

place_after_below : (i : ℕ) (word : List ℕ) (names : List (List ℕ)) {j : ℕ} → place_after i word names ≡ Some j → j < i + length names
place_after_below i word [] e = never (cc)
place_after_below i word (name ∷ names) {j} e = chosen (equal word name) (λ t q. let same : i ≡ j = cc in omega arith) (λ f q. omega (arith, place_after_below (i + 1) word names q)) e

pub place_below : (word : List ℕ) (names : List (List ℕ)) {j : ℕ} → place_of word names ≡ Some j → j < length names
unfolding place_of
place_below word names e = omega (arith, place_after_below 0 word names e)

-- a byte that is not found before a place is looked for from there on
module _ (line : List ℕ) (from near byte : ℕ) (none : (k : ℕ) → k < near - from → get_or line (from + k) 0 ≡ byte → ⊥) where
  further_on : {end : ℕ} → from ≤ near → Until line near byte end → Until line from byte end
  further_on le u =
      record {
        begun = omega (arith, u.begun);
        inside = u.inside;
        none_before = λ k h e.
            elim (dec_le near (from + k)) [
              | yes past ↦ u.none_before (from + k - near) (omega (arith, u.begun)) (ap (λ (j : ℕ). get_or line j 0) (omega arith) ∙ e)
              | no before ↦ none k (omega arith) e
            ];
        there = u.there;
      }

  pub joined : (r : Option ℕ) → near ≤ length line → (from ≤ near) ⊎ (near ≡ length line) → First line near byte r → First line from byte r
  joined (Some end) inside (inl le) f = (further_on le f.0, f.1)
  joined (Some end) inside (inr at_end) f = absurd (omega (arith, f.0.begun, f.1))
  joined None inside (inl le) f = λ from_inside. further_on le (f inside)
  joined None inside (inr at_end) f = λ from_inside. further_on (omega arith) (f inside)
