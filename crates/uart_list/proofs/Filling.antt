-- How the lent records fill: what is written after i turns, and what stands there at the end.
use mathlib.Core.Path.{◌≡◌, refl, ◌∙◌, ap}
use mathlib.Core.List.{List, [], ◌∷◌, ◌++◌}
use Prim.Native.Nat.{ℕ, zero, suc, ◌+◌, ◌<◌, ◌≤◌, zero-le}
use native.Mathlib.Nat.{le_of_suc-le-suc, not-suc-le-zero}
use native.Mathlib.Numerals.{add-one}
use native.Mathlib.Omega.{arith}
use lib.Ieee.{Float}
use lib.ListN.{length, take, drop, set, length-drop}
use lib.Seq.{take-length}
use Rattle.refusals.specs.Told.{Told, answered, refused}
use Rattle.refusals.specs.Number.{NO_ROOM}
use Rattle.uart_candidate.specs.Range.{FIRST, LAST, COUNT}
use Rattle.std.specs.Prelude.{Some, None, Ok}
use Rattle.uart_candidate.specs.Candidate.{Viable, Outcome, pair, skipped}
use Rattle.uart_candidate.specs.declared.BaudDivisors.{BaudDivisors}
use Rattle.uart_list.specs.Listing.{Viables, Right, listed, no_room}
use Rattle.uart_list.specs.Room.{Roomy, enough}
use Rattle.uart_list.proofs.Laws.{From, few as few_pairs, all, taken, passed, done, only}

-- the first i pairs of ws over ys
abbrev over : List BaudDivisors → ℕ → List BaudDivisors → List BaudDivisors
over ws i ys = take i ws ++ drop i ys

-- Before the turn at k the first n pairs of the list are written over ys, and they are those below k.
pub record Filling (reference target : Float) (ys xs : List BaudDivisors) (k n : ℕ) : Type 0 where
  pub list : List BaudDivisors
  pub viables : Viables reference target list
  pub room : length list ≤ length ys
  pub to : k ≤ LAST + 1
  pub within : n ≤ length list
  pub ahead : From reference target k (drop n list)
  pub written : xs ≡ over list n ys

-- the next pair of ws, written behind those before it
record Next (ws ys : List BaudDivisors) (i : ℕ) (p : BaudDivisors) (qs : List BaudDivisors) : Type 0 where
  less : i < length ws
  after : set (over ws i ys) i p ≡ over ws (suc i) ys
  left : drop (suc i) ws ≡ qs

one_more : (ws ys : List BaudDivisors) (i : ℕ) {p : BaudDivisors} {qs : List BaudDivisors} → length ws ≤ length ys → drop i ws ≡ p ∷ qs → Next ws ys i p qs
one_more [] ys zero g e = absurd cc
one_more [] ys (suc i) g e = absurd cc
one_more (w ∷ ws) [] i g e = absurd (not-suc-le-zero g)
one_more (w ∷ ws) (y ∷ ys) zero g e = record { less = omega arith; after = cc; left = cc }
one_more (w ∷ ws) (y ∷ ys) (suc i) g e =
    let n = one_more ws ys i (le_of_suc-le-suc g) e in
    record { less = omega (arith, n.less); after = ap (λ (l : List BaudDivisors). w ∷ l) n.after; left = n.left }

module _ {reference target : Float} {ys : List BaudDivisors} where
  pub begun : Roomy reference target (length ys) (Ok tt) → Filling reference target ys ys FIRST 0
  begun (enough ps v l) = record { list = ps; viables = v; room = l; to = omega arith; within = zero-le; ahead = all _ _ v; written = refl }

  module _ {xs : List BaudDivisors} {k n : ℕ} (h : Filling reference target ys xs k n) (l : k ≤ LAST) where
    pub passes : Outcome (Viable reference target) k None → Filling reference target ys xs (k + 1) n
    passes (skipped free) =
        record { list = h.list; viables = h.viables; room = h.room; to = omega arith; within = h.within; ahead = passed _ _ (drop n h.list) h.ahead free; written = h.written }

    pub record Written (p : BaudDivisors) : Type 0 where
      pub place : n < length ys
      pub few : n < COUNT
      pub then : Filling reference target ys (set xs n p) (k + 1) (n + 1)

    pub writes : {p : BaudDivisors} → Outcome (Viable reference target) k (Some p) → Written p
    writes {p} (pair v e) =
        let t = taken _ _ (drop n h.list) h.ahead v e in
        let d = one_more h.list ys n h.room t.1 in
        record {
          place = omega (arith, d.less, h.room);
          few = omega (arith, d.less, few_pairs _ _ h.viables);
          then = record {
            list = h.list;
            viables = h.viables;
            room = h.room;
            to = omega arith;
            within = omega (arith, d.less);
            ahead = rw (add-one n, d.left) t.2;
            written = rw (h.written, add-one n) d.after;
          };
        }

  -- after the last turn the list is written
  pub finished : {xs : List BaudDivisors} {k n : ℕ} → LAST < k → (h : Filling reference target ys xs k n) → (n ≡ length h.list) × (xs ≡ h.list ++ drop (length h.list) ys)
  finished {n} l h =
      let e : n ≡ length h.list = omega (arith, h.within, length-drop n h.list, ap length (done _ _ (drop n h.list) h.ahead l)) in
      (e, h.written ∙ ap (λ (i : ℕ). over h.list i ys) e ∙ ap (λ (ps : List BaudDivisors). ps ++ drop (length h.list) ys) (take-length h.list))

-- ---- one answer to each question, and one content of the lent records
pub unique : {reference target : ℕ} {lent xs zs : List BaudDivisors} {a b : Told ℕ} → Right reference target lent a xs → Right reference target lent b zs → (a ≡ b) × (xs ≡ zs)
unique {lent} (listed ps v l) (listed qs w m) = let e = only _ _ ps qs (all _ _ v) (all _ _ w) in (ap (λ (x : List BaudDivisors). answered (length x)) e, ap (λ (x : List BaudDivisors). x ++ drop (length x) lent) e)
unique (listed ps v l) (no_room qs w m) = absurd (let e = ap length (only _ _ ps qs (all _ _ v) (all _ _ w)) in omega arith)
unique (no_room ps v l) (listed qs w m) = absurd (let e = ap length (only _ _ ps qs (all _ _ v) (all _ _ w)) in omega arith)
unique (no_room ps v l) (no_room qs w m) = let e = only _ _ ps qs (all _ _ v) (all _ _ w) in (ap (λ (x : List BaudDivisors). refused NO_ROOM (length x ∷ [])) e, refl)
