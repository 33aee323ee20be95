-- What stays the same while accesses are recorded one by one, and what stands in the rows at the end. Assumes nothing.
use Prim.Native.Nat.{ℕ, ◌+◌}
use native.Mathlib.Numerals.{add-one}
use native.Mathlib.Omega.{arith}
use mathlib.Core.Path.{◌≡◌, refl, sym, ap, subst, ◌∙◌}
use lib.ListN.{length, length-set}
use Rattle.pll_rows.specs.Sequence.{Access, Ending, Log, after, ends}
use Rattle.pll_seq.specs.Record.{Rows, Room, stored, written}
use Rattle.pll_seq.specs.Moves.{Moves, here, on, Enough}
use Rattle.pll_seq.proofs.Front.{stored_all, in_front}

abbrev len : Log → ℕ
len l = length l.accesses

pub record Kept (before now : Rows) : Type 0 where
  pub kinds : length now.kinds ≡ length before.kinds
  pub numbers : length now.numbers ≡ length before.numbers
  pub values : length now.values ≡ length before.values

module _ {l : Log} {n : ℕ} {before : Rows} where
  -- so many are recorded, and so many are to come
  total : {k : Log} {m : ℕ} {now : Rows} → Moves l n before k m now → m + len k ≡ n + len l
  total here = refl
  total (on moves e next is) = omega (arith, total moves, ap len e, next)

  same_end : {k : Log} {m : ℕ} {now : Rows} → Moves l n before k m now → k.end ≡ l.end
  same_end here = refl
  same_end (on moves e next is) = sym (ap (λ (k : Log). k.end) e) ∙ same_end moves

  pub kept : {k : Log} {m : ℕ} {now : Rows} → Moves l n before k m now → Kept before now
  kept here = record { kinds = refl; numbers = refl; values = refl }
  kept (on {a} {m} {now} moves e next is) =
      record {
        kinds = ap (λ (r : Rows). length r.kinds) is ∙ length-set now.kinds m a.kind ∙ (kept moves).kinds;
        numbers = ap (λ (r : Rows). length r.numbers) is ∙ length-set now.numbers m a.number ∙ (kept moves).numbers;
        values = ap (λ (r : Rows). length r.values) is ∙ length-set now.values m a.value ∙ (kept moves).values;
      }

  -- the rows with all that is to come are the same
  all : {k : Log} {m : ℕ} {now : Rows} → Moves l n before k m now → stored_all m k.accesses now ≡ stored_all n l.accesses before
  all here = refl
  all (on {a} {rest} {m} {now} moves e next is) =
      rw (next, add-one, is) (ap (λ (k : Log). stored_all m k.accesses now) (sym e) ∙ all moves)

  module _ (room : Enough l n before) {k : Log} {m : ℕ} {now : Rows} (moves : Moves l n before k m now) where
    pub enough : Enough k m now
    enough =
        record {
          kinds = omega (arith, total moves, (kept moves).kinds, room.kinds);
          numbers = omega (arith, total moves, (kept moves).numbers, room.numbers);
          values = omega (arith, total moves, (kept moves).values, room.values);
        }

-- one part after the other
pub then : {l k : Log} {n m : ℕ} {r q : Rows} {j : Log} {p : ℕ} {t : Rows} → Moves l n r k m q → Moves k m q j p t → Moves l n r j p t
then first here = first
then first (on moves e next is) = on (then first moves) e next is

-- all is recorded
module _ {l : Log} {before : Rows} {e : Ending} {m : ℕ} {now : Rows} (moves : Moves l 0 before (ends e) m now) where
  pub counted : m ≡ len l
  counted = omega (arith, total moves)

  pub ended : e ≡ l.end
  ended = same_end moves

  pub in_rows : Enough l 0 before → now ≡ written l.accesses before
  in_rows room = all moves ∙ in_front l.accesses before (record { kinds = omega (arith, room.kinds); numbers = omega (arith, room.numbers); values = omega (arith, room.values) })

-- ---- inside a loop, where the rows have room for all that is to come at first

pub record Going (l : Log) (n : ℕ) (before : Rows) (k : Log) (m : ℕ) (now : Rows) : Type 0 where
  pub room : Enough l n before
  pub moves : Moves l n before k m now
  pub kinds : length now.kinds ≡ length before.kinds
  pub numbers : length now.numbers ≡ length before.numbers
  pub values : length now.values ≡ length before.values

going : {l k : Log} {n m : ℕ} {before now : Rows} → Enough l n before → Moves l n before k m now → Going l n before k m now
going room moves =
    let h = kept moves in
    record { room = room; moves = moves; kinds = h.kinds; numbers = h.numbers; values = h.values }

pub begins : {l : Log} {n : ℕ} {before : Rows} → Enough l n before → Going l n before l n before
begins room = going room here

module _ {l k rest : Log} {n m : ℕ} {before now : Rows} {a : Access} (g : Going l n before k m now) (e : k ≡ after a rest) where
  pub for_next : Room (m + 1) now
  for_next =
      let h = enough g.room g.moves in
      record {
        kinds = omega (arith, ap len e, h.kinds);
        numbers = omega (arith, ap len e, h.numbers);
        values = omega (arith, ap len e, h.values);
      }

  pub goes_on : {then : Rows} → then ≡ stored m a now → Going l n before rest (m + 1) then
  goes_on is = going g.room (on g.moves e refl is)

pub goes_as : {l k j : Log} {n m : ℕ} {before now : Rows} → Going l n before k m now → k ≡ j → Going l n before j m now
goes_as {l} {n} {m} {before} {now} g e = subst (λ (k : Log). Going l n before k m now) e g

pub arrives : {l k j : Log} {n m : ℕ} {before now : Rows} → Going l n before k m now → k ≡ j → Moves l n before j m now
arrives {l} {n} {m} {before} {now} g e = subst (λ (k : Log). Moves l n before k m now) e g.moves
