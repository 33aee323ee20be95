-- How the list is written: what stands there before the turn at k, and how the count and the entries come to one answer.
use mathlib.Core.Path.{◌≡◌, refl, sym, ap, ◌∙◌, subst, subst⁻¹, subst₂}
use mathlib.Core.List.{List, [], ◌++◌, append_assoc, append-nil}
use Prim.Native.Nat.{ℕ, ◌+◌, ◌*◌, ◌≤◌, ◌<◌}
use native.Mathlib.Omega.{arith}
use lib.Dec.{lit≤}
use lib.Ieee.{Float}
use lib.ListN.{length, length-append}
use Rattle.std.specs.Prelude.{Option, Some, None, Result, IsOk}
use Rattle.text.specs.Digits.{decimal}
use Rattle.text.specs.Page.{Contents}
use Rattle.text.specs.Put.{Wrote, Put}
use Rattle.text.specs.declared.page.Full.{Full}
use Rattle.text.proofs.Digits.{decimal_short}
use Rattle.text.proofs.Writing.{then}
use Rattle.float32.specs.Whole.{of_whole}
use Rattle.uart_candidate.specs.Range.{FIRST, LAST, COUNT}
use Rattle.uart_candidate.specs.Candidate.{Viable, Outcome}
use Rattle.uart_candidate.specs.declared.BaudDivisors.{BaudDivisors}
use Rattle.uart_list.specs.Listing.{Viables, Counts}
use Rattle.uart_list.proofs.Laws.{From, put, few as few_pairs, before as grown, beyond, whole, all, only, one_count}
use Rattle.forms.specs.Says.{Said, Says}
use Rattle.forms.proofs.Saying.{said as short, said_nothing, both, room_after, says}
use Rattle.desk_uart_list.specs.List.{entry_of, entry, entries, Prints, Listed, listed}

-- ---- the entries
entries_put : (t : Option BaudDivisors) (ps : List BaudDivisors) → entries (put t ps) ≡ entry t ++ entries ps
entries_put (Some p) ps = refl
entries_put None ps = refl

-- this text has the entries of the viable pairs below k
pub record Covers (reference target : Float) (text : List ℕ) (k : ℕ) : Type 0 where
  pub full : (ps : List BaudDivisors) → From reference target k ps → (qs : List BaudDivisors) × From reference target FIRST qs × (entries qs ≡ text ++ entries ps)

pub record Progress (reference target : Float) (before page : Contents) (k : ℕ) : Type 0 where
  pub room : 7900 ≤ length before.rest
  pub last : k ≤ LAST + 1
  pub text : List ℕ
  pub wrote : Wrote text before page
  pub within : length text + 31 * FIRST ≤ 31 * k
  pub covers : Covers reference target text k

module _ {reference target : Float} {before page : Contents} {k : ℕ} (h : Progress reference target before page k) where
  pub turn : {t : Option BaudDivisors} {after : Contents} → k ≤ LAST → Outcome (Viable reference target) k t → Said 31 (entry t) page after → Progress reference target before after (k + 1)
  turn {t} l o s = record {
    room = h.room;
    last = omega arith;
    text = h.text ++ entry t;
    wrote = then h.wrote s.wrote;
    within = omega (arith, h.within, s.within, length-append h.text (entry t));
    covers = record { full = λ ps f. let r = h.covers.full (put t ps) (grown _ _ o f) in (r.0, r.1, r.2 ∙ ap (λ (l : List ℕ). h.text ++ l) (entries_put t ps) ∙ sym (append_assoc h.text (entry t) (entries ps))) };
  }

  pub a_pair : {t : Option BaudDivisors} {p : BaudDivisors} {after : Contents} → k ≤ LAST → Outcome (Viable reference target) k t → t ≡ Some p → Said 31 (entry_of p) page after → Progress reference target before after (k + 1)
  a_pair {t} {p} {after} l o e s = turn l (subst (Outcome (Viable reference target) k) e o) s

  pub no_pair : {t : Option BaudDivisors} → k ≤ LAST → Outcome (Viable reference target) k t → t ≡ None → Progress reference target before page (k + 1)
  no_pair {t} l o e = turn l (subst (Outcome (Viable reference target) k) e o) (said_nothing page)

  pub finished : LAST < k → Prints reference target before page
  finished l =
      let r = h.covers.full [] (beyond _ _ l) in
      let is : entries r.0 ≡ h.text = r.2 ∙ append-nil h.text in
      record {
        list = r.0;
        viables = whole _ _ r.1;
        said = record { wrote = subst⁻¹ (λ (t : List ℕ). Wrote t before page) is h.wrote; within = omega (arith, h.within, h.last, ap length is) };
      }

-- ---- the count before them
pub few : {reference target : Float} {n : ℕ} → Counts reference target n → n ≤ COUNT
few c = omega (arith, few_pairs _ _ c.viables, c.many)

module _ {f g : Float} {n : ℕ} {before middle : Contents} (counts : Counts f g n) (room : 8192 ≤ length before.rest) (r : Result Unit Full) (count : Put (decimal n) before middle r) where
  one : IsOk r × Said 10 (decimal n) before middle
  one = short r (decimal_short n (omega (arith, few counts))) (omega arith) count

  pub counted : IsOk r
  counted = one.0

  first : Said 10 (decimal n) before middle
  first = one.1

  pub room_for_all : 7900 ≤ length middle.rest
  room_for_all = room_after first 7900 (omega arith)

  pub count_and_list : {reference target : ℕ} {after : Contents} → f ≡ of_whole reference → g ≡ of_whole target → Prints f g middle after → Says (Listed reference target) before after
  count_and_list {after = after} is and s =
      says 7910 (lit≤ tt)
      (subst (λ (m : ℕ). Said 7910 (decimal m ++ entries s.list) before after) (one_count _ _ counts (record { list = s.list; viables = s.viables; many = refl })) (both first s.said))
      (listed s.list (subst₂ (λ (x y : Float). Viables x y s.list) is and s.viables))

-- one text to each question
pub unique : {reference baud : ℕ} {t u : List ℕ} → Listed reference baud t → Listed reference baud u → t ≡ u
unique (listed ps v) (listed qs w) = ap (λ (l : List BaudDivisors). decimal (length l) ++ entries l) (only _ _ ps qs (all _ _ v) (all _ _ w))
