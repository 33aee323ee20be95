-- How a row of accesses comes to its text.
use mathlib.Core.Path.{◌≡◌, refl, sym, ap, ◌∙◌}
use mathlib.Core.List.{List, [], ◌∷◌, ◌++◌, append_assoc, append-nil, map}
use Prim.Native.Nat.{ℕ, zero-le, zero, suc, ◌*◌, ◌≤◌}
use native.Mathlib.Omega.{arith}
use Rattle.std.proofs.Math.Seq.{take-append_seam}
use lib.ListN.{length, take, drop, length-map, length-append}
use Rattle.text.specs.Page.{Contents}
use Rattle.text.specs.Put.{Wrote}
use Rattle.text.proofs.Writing.{nothing, then}
use Rattle.forms.specs.Says.{Said}
use Rattle.pll_rows.specs.Sequence.{Access}
use Rattle.pll_seq.specs.Record.{Rows, number_of, kind_of, over, written}
use Rattle.desk_pll_seq.specs.Printed.{access, accesses, listed, firsts}

-- ---- a row of accesses
accesses_last : (list : List Access) (a : Access) → accesses (list ++ (a ∷ [])) ≡ accesses list ++ access a
accesses_last [] a = append-nil (access a)
accesses_last (b ∷ list) a = ap (λ (t : List ℕ). access b ++ t) (accesses_last list a) ∙ sym (append_assoc (access b) (accesses list) (access a))

-- an access's kind, as the code reads it, is printed as the number that it was read from
pub same_access : (kind number value : ℕ) →
    access (record { kind = number_of (kind_of kind); number = number; value = value }) ≡ access (record { kind = kind; number = number; value = value })
unfolding access
same_access zero number value = refl
same_access (suc kind) number value = refl

-- some are written, and others are left
pub record Logged (all left : List Access) (before page : Contents) : Type 0 where
  pub done : List Access
  pub split : all ≡ done ++ left
  pub room : 23 * length all ≤ length before.rest
  pub wrote : Wrote (accesses done) before page
  pub within : length (accesses done) ≤ 23 * length done

pub none : {all : List Access} {page : Contents} → 23 * length all ≤ length page.rest → Logged all all page page
none {page = page} h = record { done = []; split = refl; room = h; wrote = nothing page; within = omega arith }

module _ {all left : List Access} {before page : Contents} (l : Logged all left before page) where
  pub room_for_one : {a : Access} {more : List Access} → left ≡ a ∷ more → 23 ≤ length page.rest
  room_for_one e = omega (arith, l.room, l.within, l.wrote.inside, ap length l.split, ap length e, length-append l.done left)

  pub one_more : {a : Access} {more : List Access} {after : Contents} → left ≡ a ∷ more → Said 23 (access a) page after → Logged all more before after
  one_more {a} {more} e s =
      let longer : accesses (l.done ++ (a ∷ [])) ≡ accesses l.done ++ access a = accesses_last l.done a in
      record {
        done = l.done ++ (a ∷ []);
        split = l.split ∙ ap (λ (t : List Access). l.done ++ t) e ∙ sym (append_assoc l.done (a ∷ []) more);
        room = l.room;
        wrote = rw longer (then l.wrote s.wrote);
        within = omega (arith, l.within, s.within, length-append l.done (a ∷ []), ap length longer, length-append (accesses l.done) (access a));
      }

  pub all_said : left ≡ [] → Said (23 * length all) (accesses all) before page
  all_said e = rw same (record { wrote = l.wrote; within = l.within })
    where
      same : all ≡ l.done
      same = l.split ∙ ap (λ (t : List Access). l.done ++ t) e ∙ append-nil l.done

-- ---- what a run leaves in its rows, read back, is the run's own list
module _ (list : List Access) (f : Access → ℕ) (row : List ℕ) where
  front : take (length list) (over (map f list) row) ≡ map f list
  front =
      ap (λ (n : ℕ). take n (over (map f list) row)) (sym (length-map list f))
      ∙ take-append_seam (map f list) (drop (length (map f list)) row)

parts : (list : List Access) →
    listed (map (λ (a : Access). a.kind) list) (map (λ (a : Access). a.number) list) (map (λ (a : Access). a.value) list) ≡ list
parts [] = refl
parts (a ∷ list) = ap (λ (l : List Access). a ∷ l) (parts list)

pub at_most_first : (kinds numbers values : List ℕ) → length (listed kinds numbers values) ≤ length kinds
at_most_first [] numbers values = zero-le
at_most_first (k ∷ kinds) [] values = zero-le
at_most_first (k ∷ kinds) (n ∷ numbers) [] = zero-le
at_most_first (k ∷ kinds) (n ∷ numbers) (v ∷ values) = omega (arith, at_most_first kinds numbers values)

pub read_back : (list : List Access) (r : Rows) → firsts (length list) (written list r) ≡ list
read_back list r =
    rw (front list (λ (a : Access). a.kind) r.kinds, front list (λ (a : Access). a.number) r.numbers, front list (λ (a : Access). a.value) r.values)
    (parts list)
