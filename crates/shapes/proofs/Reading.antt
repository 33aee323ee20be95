-- Reading a line's words one after the other.
use mathlib.Core.Path.{◌≡◌, refl, sym, ap, ◌∙◌, subst}
use mathlib.Core.Bool.{Bool, true, false, cond}
use mathlib.Core.List.{List, [], ◌∷◌, ◌++◌, append_assoc, append-nil}
use Prim.Native.Nat.{ℕ, suc, ◌+◌, ◌-◌, ◌<◌}
use native.Mathlib.Omega.{arith}
use lib.Dec.{eqb}
use lib.ListN.{length, get_or, drop, drop_of_length-le}
use lib.Seq.{drop-cons}
use Rattle.std.specs.Prelude.{Option, Some, None, Result, Ok, Err}
use Rattle.std.specs.Iterator.{Yields}
use Rattle.std.proofs.lemmas.Iterator.{YieldsList}
use Rattle.std.proofs.lemmas.Iterator.Consumers.{YieldsList-turn, YieldsList-end}
use Rattle.words.proofs.Choosing.{chosen, never}
use Rattle.shapes.specs.Field.{field_of}
use Rattle.shapes.specs.Kind.{kind_of}
use Rattle.shapes.specs.Shape.{MOST, Parsed, all, bad, stop, then, parse, counted, front, Reads}
use Rattle.shapes.specs.declared.fields.Fault.{Fault}
use Rattle.shapes.specs.declared.kind.Kind.{Kind}

-- what a shape's first byte says of the next word
pub past_shape : (shape : List ℕ) (room k : ℕ) (word : List ℕ) (words : List (List ℕ)) → length shape ≡ 0 → parse shape room k (word ∷ words) ≡ stop (bad k Fault.OneTooMany)
unfolding parse
past_shape [] room k word words h = refl
past_shape (kind ∷ shape) room k word words h = absurd (omega arith)

pub no_room : (shape : List ℕ) (room k : ℕ) (word : List ℕ) (words : List (List ℕ)) → room ≡ 0 → parse shape room k (word ∷ words) ≡ stop (bad k Fault.OneTooMany)
unfolding parse
no_room [] room k word words h = refl
no_room (kind ∷ shape) room k word words h = rw h

register_byte : (c : ℕ) → kind_of c ≡ Kind.Register → eqb c 119 ≡ true
register_byte c e = chosen (eqb c 119) (λ t q. t) (λ f q. chosen (eqb c 115) (λ t q. never (cc)) (λ f q. chosen (eqb c 112) (λ t q. never (cc)) (λ f q. chosen (eqb c 102) (λ t q. never (cc)) (λ f q. chosen (eqb c 98) (λ t q. never (cc)) (λ f q. chosen (eqb c 104) (λ t q. never (cc)) (λ f q. never (cc)) q) q) q) q) q) e

other_byte : (c : ℕ) → (kind_of c ≡ Kind.Register → ⊥) → eqb c 119 ≡ false
other_byte c n = go (eqb c 119) refl
  where
    go : (b : Bool) → eqb c 119 ≡ b → eqb c 119 ≡ false
    go true e = absurd (n (simp e))
    go false e = e

module _ {shape : List ℕ} {first : ℕ} {behind : List ℕ} (s : shape ≡ first ∷ behind) (word : List ℕ) (n k : ℕ) (words : List (List ℕ)) (h : n < MOST) where
  parsed : parse shape (MOST - n) k (word ∷ words) ≡ then k (field_of (kind_of first) word) (parse (cond (eqb first 119) shape behind) (MOST - (n + 1)) (k + 1) words)
  unfolding parse
  parsed = let room : MOST - n ≡ suc (MOST - (n + 1)) = omega arith in rw (s, room)

  pub bad_word : (f : Fault) → field_of (kind_of first) word ≡ Err f → parse shape (MOST - n) k (word ∷ words) ≡ stop (bad k f)
  bad_word f e = parsed ∙ rw e

  good_word : (v m : ℕ) (left : List ℕ) → field_of (kind_of first) word ≡ Ok v → m ≡ n + 1 → cond (eqb first 119) shape behind ≡ left → parse shape (MOST - n) k (word ∷ words) ≡ then k (Ok v) (parse left (MOST - m) (k + 1) words)
  good_word v m left e l q = parsed ∙ rw (e, l, q)

  pub same_kind : (v m : ℕ) → field_of (kind_of first) word ≡ Ok v → m ≡ n + 1 → kind_of first ≡ Kind.Register → parse shape (MOST - n) k (word ∷ words) ≡ then k (Ok v) (parse shape (MOST - m) (k + 1) words)
  same_kind v m e l q = good_word v m shape e l (simp (register_byte first q))

  pub next_kind : (v m : ℕ) → field_of (kind_of first) word ≡ Ok v → m ≡ n + 1 → (kind_of first ≡ Kind.Register → ⊥) → parse shape (MOST - n) k (word ∷ words) ≡ then k (Ok v) (parse behind (MOST - m) (k + 1) words)
  next_kind v m e l q = good_word v m behind e l (simp (other_byte first q))

-- after i words: with what is parsed of the words that are left by what is left of the shape, their numbers are what is parsed of all
pub record ReadTo (shape : List ℕ) (words : List (List ℕ)) (i : ℕ) (numbers left : List ℕ) : Type 0 where
  pub count : length numbers ≡ i
  pub rest : front numbers (parse left (MOST - i) (i + 2) (drop i words)) ≡ parse shape MOST 2 words

pub begin : (shape : List ℕ) (words : List (List ℕ)) (numbers : List ℕ) → numbers ≡ [] → ReadTo shape words 0 numbers shape
begin shape words numbers e = rw e (record { count = refl; rest = refl })

module _ {shape : List ℕ} {all : List (List ℕ)} {i : ℕ} {numbers left : List ℕ} (r : ReadTo shape all i numbers left) where
  module _ (word : List ℕ) (h : i < length all) (here : word ≡ get_or all i word) where
    this : drop i all ≡ word ∷ drop (suc i) all
    this = drop-cons all i word h ∙ ap (λ (w : List ℕ). w ∷ drop (suc i) all) (sym here)

    module _ (f : Fault) (after : List ℕ) (w : (after ≡ numbers) × ((k : ℕ) (words : List (List ℕ)) → parse left (MOST - length numbers) k (word ∷ words) ≡ stop (bad k f))) where
      stopped : front numbers (stop (bad (i + 2) f)) ≡ parse shape MOST 2 all
      stopped = ap (front numbers) (sym (rw this (subst (λ (n : ℕ). parse left (MOST - n) (i + 2) (word ∷ drop (suc i) all) ≡ stop (bad (i + 2) f)) r.count (w.1 (i + 2) (drop (suc i) all))))) ∙ r.rest

      pub turn_bad : Reads (parse shape MOST 2 all) after (bad (length after + 2) f)
      turn_bad =
          record {
            answer_is = ap (λ (n : ℕ). bad (n + 2) f) (ap length w.0 ∙ r.count) ∙ ap (λ (p : Parsed). p.end) stopped;
            row_is = w.0 ∙ sym (append-nil numbers) ∙ ap (λ (p : Parsed). p.numbers) stopped;
          }

    module _ (v j : ℕ) (after left' : List ℕ) (e : j ≡ i + 1) (a : after ≡ numbers ++ (v ∷ [])) (l : length after ≡ length numbers + 1) (w : (k : ℕ) (words : List (List ℕ)) → parse left (MOST - length numbers) k (word ∷ words) ≡ then k (Ok v) (parse left' (MOST - length after) (k + 1) words)) where
      count : length after ≡ j
      count = omega (arith, r.count)

      others : Parsed
      others = parse left' (MOST - j) (j + 2) (drop j all)

      step : parse left (MOST - i) (i + 2) (drop i all) ≡ then (i + 2) (Ok v) others
      unfolding others
      step = let next : i + 2 + 1 ≡ j + 2 = omega arith in let past : suc i ≡ j = omega arith in
          rw this (subst (λ (n : ℕ). parse left (MOST - n) (i + 2) (word ∷ drop (suc i) all) ≡ then (i + 2) (Ok v) (parse left' (MOST - length after) (i + 2 + 1) (drop (suc i) all))) r.count (w (i + 2) (drop (suc i) all)) ∙ rw (count, next, past))

      pub turn_good : ReadTo shape all j after left'
      unfolding others
      turn_good =
          record {
            count = count;
            rest = ap (λ (ns : List ℕ). front ns others) a ∙ ap (λ (ns : List ℕ). record { numbers = ns; end = others.end }) (append_assoc numbers (v ∷ []) others.numbers) ∙ ap (front numbers) (sym step) ∙ r.rest;
          }

  pub ended : i ≡ length all → front numbers (parse left (MOST - length numbers) (length numbers + 2) []) ≡ parse shape MOST 2 all
  ended e = let none : drop i all ≡ [] = drop_of_length-le all (omega arith) in rw r.count (ap (λ (ws : List (List ℕ)). front numbers (parse left (MOST - i) (i + 2) ws)) (sym none) ∙ r.rest)

-- a shape that a line may end at
pub no_byte : (shape : List ℕ) (room k : ℕ) → length shape ≡ 0 → parse shape room k [] ≡ stop all
unfolding parse
no_byte [] room k h = refl
no_byte (kind ∷ shape) room k h = absurd (omega arith)

pub only_registers : (shape : List ℕ) (room k first : ℕ) → 0 < length shape → first ≡ get_or shape 0 first → kind_of first ≡ Kind.Register → parse shape room k [] ≡ stop all
unfolding parse
only_registers [] room k first h e q = absurd (omega arith)
only_registers (kind ∷ shape) room k first h e q = simp (sym e) (simp (register_byte first q))

pub one_missing : (shape : List ℕ) (room k first : ℕ) → 0 < length shape → first ≡ get_or shape 0 first → (kind_of first ≡ Kind.Register → ⊥) → parse shape room k [] ≡ stop (bad k Fault.Missing)
unfolding parse
one_missing [] room k first h e q = absurd (omega arith)
one_missing (kind ∷ shape) room k first h e q = simp (sym e) (simp (other_byte first q))

-- where a turn of the loop stands in the words, and where the loop ends
pub at_turn : {S A B : Type 0} {steps : S → Option A → S → Type 0} {v : A → B} {s : S} {all : List B} (xs : List A) (t : S) → Yields steps s xs t → YieldsList steps v s all → (r : Option A) (u : S) (x : A) → r ≡ Some x → steps t r u → (length xs < length all) × (v x ≡ get_or all (length xs) (v x))
at_turn xs t y e = YieldsList-turn e xs t y

pub at_last : {S A B : Type 0} {steps : S → Option A → S → Type 0} {v : A → B} {s : S} {all : List B} (xs : List A) (t : S) → Yields steps s xs t → YieldsList steps v s all → (r : Option A) (u : S) → r ≡ None → steps t r u → length xs ≡ length all
at_last xs t y e r u n k = (YieldsList-end e xs t y r u n k).1

-- a line without words
pub no_words : (shape row : List ℕ) (words : List (List ℕ)) (r : Result Unit Fault) → words ≡ [] → row ≡ [] → ((room n : ℕ) → parse shape room (n + 2) [] ≡ stop (counted n r)) → Reads (parse shape MOST 2 words) row (counted (length row) r)
no_words shape row words r e n a = rw (e, n) (record { answer_is = ap (λ (p : Parsed). p.end) (sym (a MOST 0)); row_is = ap (λ (p : Parsed). p.numbers) (sym (a MOST 0)) })
