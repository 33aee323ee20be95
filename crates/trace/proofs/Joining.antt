-- Counts after counts: what a part adds to a channel is what it adds to the whole. Assumes nothing.
use Rattle.std.proofs.Common.{◌≡◌, ℕ, zero, suc, ◌+◌, ◌*◌, ◌%◌, ◌^◌, ◌<◌, ◌≤◌, Bool, cond, List, [], ◌∷◌, ◌++◌, length, get_or, take, sym, refl, ap, ◌∙◌, subst, add_assoc, zero-add, arith, length-append, length-take-le, ne_eqb}
use lib.Seq.{take-append-add}
use Rattle.trace.specs.Counts.{step, ticks, last_of}
use Rattle.trace.specs.Numbers.{of_counts}
use Rattle.trace.specs.Parts.{MOST, prior, after}
use Rattle.trace.proofs.Counting.{step_below, step_self}

pub last_join : (d : ℕ) (xs ys : List ℕ) → last_of (last_of d xs) ys ≡ last_of d (xs ++ ys)
last_join d [] ys = refl
last_join d (x ∷ xs) ys = last_join x xs ys

-- after a count there are others
after_one : (x : ℕ) (xs ys : List ℕ) → ticks (x ∷ xs ++ ys) ≡ ticks (x ∷ xs) + ticks (last_of x xs ∷ ys)
after_one x [] ys = sym (zero-add (ticks (x ∷ ys)))
after_one x (y ∷ xs) ys = ap (λ (n : ℕ). step x y + n) (after_one y xs ys) ∙ sym (add_assoc (step x y) (ticks (y ∷ xs)) (ticks (last_of y xs ∷ ys)))

-- a first count that follows itself
from_itself : (d : ℕ) (ys : List ℕ) (k : ℕ) → ticks (take k ys) ≡ ticks (get_or ys 0 d ∷ take k ys)
from_itself d ys zero = refl
from_itself d [] (suc k) = refl
from_itself d (y ∷ ys) (suc k) = omega (arith, step_self y)

pub added : (xs ys : List ℕ) (k : ℕ) → (of_counts xs).total + ticks (prior (length xs) (of_counts xs) ys ∷ take k ys) ≡ ticks (xs ++ take k ys)
added [] ys k = zero-add _ ∙ sym (from_itself 0 ys k)
added (x ∷ xs) ys k =
    ap (λ (b : Bool). ticks (x ∷ xs) + ticks (cond b (get_or ys 0 (last_of x xs)) (last_of x xs) ∷ take k ys)) (ne_eqb (length (x ∷ xs)) 0 (λ e. omega arith))
    ∙ sym (after_one x xs (take k ys))

-- ---- nothing wraps

pub ticks_bound : (xs : List ℕ) → ticks xs ≤ 65_535 * length xs
ticks_bound [] = omega arith
ticks_bound (x ∷ []) = omega arith
ticks_bound (x ∷ y ∷ xs) = omega (arith, step_below x y, ticks_bound (y ∷ xs))

-- a total of up to MOST samples is below 2 to the 40th
pub fits : (xs : List ℕ) → length xs ≤ MOST → ticks xs < 1_099_511_627_776
fits xs h = omega (arith, ticks_bound xs)

pub after_is : (xs ys : List ℕ) (k : ℕ) → length (xs ++ ys) ≤ MOST → k ≤ length ys → after (length xs) (of_counts xs) ys k ≡ ticks (xs ++ take k ys)
after_is xs ys k h k_in =
    let within : length (xs ++ take k ys) ≤ MOST = omega (arith, length-append xs ys, length-append xs (take k ys), length-take-le k ys k_in) in
    let e : ((of_counts xs).total + ticks (prior (length xs) (of_counts xs) ys ∷ take k ys)) ≡ ticks (xs ++ take k ys) = added xs ys k in
    ap (λ (n : ℕ). n % 2 ^ 64) e ∙ omega (arith, fits (xs ++ take k ys) within)

-- at a part's sample j, which is sample n + j of the whole
pub reached : (xs ys : List ℕ) {n : ℕ} (j : ℕ) → length xs ≡ n → length (xs ++ ys) ≤ MOST → j < length ys
    → after n (of_counts xs) ys (suc j) ≡ ticks (take (suc (n + j)) (xs ++ ys))
reached xs ys j e h j_in =
    let count : suc (length xs + j) ≡ length xs + suc j = omega arith in
    subst (λ (n : ℕ). after n (of_counts xs) ys (suc j) ≡ ticks (take (suc (n + j)) (xs ++ ys))) e
    (after_is xs ys (suc j) h j_in ∙ sym (ap ticks (ap (λ (k : ℕ). take k (xs ++ ys)) count ∙ take-append-add xs ys (suc j))))
