-- Going through a block line by line, and what a step comes to.
use mathlib.Core.Path.{◌≡◌, sym, ap, ◌∙◌, subst, subst⁻¹, subst₂}
use mathlib.Core.Bool.{Bool, true, false, true≢false}
use mathlib.Core.List.{List, [], ◌∷◌, ◌++◌, append_assoc, append-nil}
use Prim.Native.Nat.{ℕ, ◌+◌, ◌-◌, ◌≤◌, ◌<◌}
use native.Mathlib.Omega.{arith}
use native.Mathlib.Decide.{dec_le}
use lib.ListN.{length}
use Rattle.std.specs.Prelude.{Result, Ok, Err}
use Rattle.text.specs.Page.{Contents}
use Rattle.text.specs.declared.page.Full.{Full}
use Rattle.text.proofs.Writing.{nothing, then}
use Rattle.words.specs.Words.{Until, part}
use Rattle.words.proofs.Parts.{no_part, side_by_side, with_next, none_in_part, length_part}
use Rattle.forms.specs.Says.{ROOM}
use Rattle.std.specs.Result.{is_ok, is_err}
use Rattle.desk.specs.Line.{Line, Writes, LineAnswered}
use Rattle.desk.specs.Block.{Through, Block, LinesOf, fresh}
use Rattle.desk.specs.Session.{NoNewline, Session}
use Rattle.desk.specs.declared.block.FullAt.{FullAt}
use Rattle.desk.specs.declared.block.Place.{Place}

-- what answering a line came to, by its case
module _ (line : List ℕ) (before after : Contents) (r : Result Unit Full) (p : LineAnswered line before after r) where
  pub was_written : {x : Unit} → r ≡ Ok x → Writes (Line line) before after
  was_written {x} e =
      elim (dec_le ROOM (length before.rest)) [
        | yes h ↦ (p.fits h).1
        | no h ↦ absurd (true≢false (sym (p.full (omega arith)).0 ∙ ap is_err e))
      ]

  pub was_full : {x : Full} → r ≡ Err x → (length after.rest < ROOM) × (after ≡ before)
  was_full {x} e =
      elim (dec_le ROOM (length before.rest)) [
        | yes h ↦ absurd (true≢false (sym (p.fits h).0 ∙ ap is_ok e))
        | no h ↦ let q = (p.full (omega arith)).1 in (omega (arith, ap (λ (page : Contents). length page.rest) q), q)
      ]

-- no line yet
pub no_lines : {input : List ℕ} {from : ℕ} (page : Contents) → from ≤ length input → Through input (fresh from) (fresh from) page page
no_lines {input} {from} page h =
    record {
      onward = omega arith;
      within = h;
      texts = [];
      session = subst⁻¹ (λ (l : List ℕ). Session false l [] false) (no_part input from) Session.start;
      wrote = nothing page;
    }

module _ {input : List ℕ} {from : Place} {before page : Contents} {used : ℕ} (t : Through input from (fresh used) before page) where
  -- the next newline is at `end`
  pub a_line : {end : ℕ} {after : Contents} → Until input used 10 end → end < length input → Writes (Line (part input used end)) page after
      → Through input from (fresh (end + 1)) before after
  a_line {end} u h w =
      record {
        onward = omega (arith, t.onward, u.begun);
        within = omega arith;
        texts = t.texts ++ w.text;
        session = subst (λ (i : List ℕ). Session from.swallowing i (t.texts ++ w.text) false) joined (Session.line (part input used end) w.text t.session (none_in_part u) w.right);
        wrote = then t.wrote w.wrote;
      }
    where
      joined : part input from.used used ++ (part input used end ++ (10 ∷ [])) ≡ part input from.used (end + 1)
      joined = ap (λ (p : List ℕ). part input from.used used ++ p) (sym (with_next input used end u.begun h (u.there h))) ∙ side_by_side input from.used used (end + 1) t.onward (omega (arith, u.begun))

  -- a line for which there was no room has changed nothing
  pub no_room : {after : Contents} → (length after.rest < ROOM) × (after ≡ page) → Through input from (fresh used) before after
  no_room f = subst⁻¹ (λ (o : Contents). Through input from (fresh used) before o) f.1 t

  -- a line that has grown too long, up to the input's end
  pub a_long_line : {after : Contents} → NoNewline (part input used (length input)) → 1025 < length input - used
      → Writes (Line (part input used (length input))) page after → Block input from before after (Ok (record { used = length input; swallowing = true }))
  a_long_line n h w =
      Block.done
      (record {
        onward = omega (arith, t.onward, t.within);
        within = omega arith;
        texts = t.texts ++ w.text;
        session = subst (λ (i : List ℕ). Session from.swallowing i (t.texts ++ w.text) true) (side_by_side input from.used used (length input) t.onward t.within) (Session.too_long (part input used (length input)) w.text t.session n (omega (arith, h, length_part input used (length input) (omega arith))) w.right);
        wrote = then t.wrote w.wrote;
      })
      (omega arith)
      (subst⁻¹ NoNewline (no_part input (length input)) (λ k m. absurd (omega (arith, m))))

-- what the lines came to, by its case
pub all_lines : {input : List ℕ} {from used : ℕ} {before after : Contents} {r : Result ℕ FullAt} → LinesOf input from before after r → r ≡ Ok used
    → Through input (fresh from) (fresh used) before after × NoNewline (part input used (length input))
all_lines {input} {from} {used} {before} {after} l e = by (subst (LinesOf input from before after) e l)
  where
    by : LinesOf input from before after (Ok used) → Through input (fresh from) (fresh used) before after × NoNewline (part input used (length input))
    by (LinesOf.done t n) = (t, n)

pub some_lines : {input : List ℕ} {from : ℕ} {stop : FullAt} {before after : Contents} {r : Result ℕ FullAt} → LinesOf input from before after r → r ≡ Err stop
    → Block input (fresh from) before after (Err stop)
some_lines {input} {from} {stop} {before} {after} l e = by (subst (LinesOf input from before after) e l)
  where
    by : LinesOf input from before after (Err stop) → Block input (fresh from) before after (Err stop)
    by (LinesOf.full t h) = Block.full t h

-- the rest of a line that was answered already
pub swallow_all : {input : List ℕ} {from : Place} (page : Contents) → from.swallowing ≡ true → Until input from.used 10 (length input)
    → Block input from page page (Ok (record { used = length input; swallowing = true }))
swallow_all {input} {from} page e u =
    Block.done
    (record {
      onward = u.begun;
      within = omega arith;
      texts = [];
      session = subst⁻¹ (λ (b : Bool). Session b (part input from.used (length input)) [] true) e (Session.swallow (part input from.used (length input)) Session.start (none_in_part u));
      wrote = nothing page;
    })
    (omega arith)
    (subst⁻¹ NoNewline (no_part input (length input)) (λ k m. absurd (omega (arith, m))))

-- sessions one after the other
pub join : {a b c : Bool} {x y t u : List ℕ} → Session a x t b → Session b y u c → Session a (x ++ y) (t ++ u) c
join {a} {b} {x = x} {t = t} s Session.start = subst₂ (λ (l m : List ℕ). Session a l m b) (sym (append-nil x)) (sym (append-nil t)) s
join {a} {x = x} {t = t} s (Session.line {input} {texts} l text r n w) = subst₂ (λ (p q : List ℕ). Session a p q false) (append_assoc x input (l ++ (10 ∷ []))) (append_assoc t texts text) (Session.line l text (join s r) n w)
join {a} {x = x} {t = t} s (Session.too_long {input} {texts} l text r n h w) = subst₂ (λ (p q : List ℕ). Session a p q true) (append_assoc x input l) (append_assoc t texts text) (Session.too_long l text (join s r) n h w)
join {a} {x = x} {t = t} s (Session.swallow {input} {texts} l r n) = subst (λ (p : List ℕ). Session a p (t ++ texts) true) (append_assoc x input l) (Session.swallow l (join s r) n)
join {a} {x = x} {t = t} s (Session.swallowed {input} {texts} l r n) = subst (λ (p : List ℕ). Session a p (t ++ texts) false) (append_assoc x input (l ++ (10 ∷ []))) (Session.swallowed l (join s r) n)

module _ {input : List ℕ} {from : Place} {end : ℕ} (e : from.swallowing ≡ true) (u : Until input from.used 10 end) (h : end < length input) where
  swallowed_through : {to : Place} {before after : Contents} → Through input (fresh (end + 1)) to before after → Through input from to before after
  swallowed_through {to} t =
      record {
        onward = omega (arith, u.begun, t.onward);
        within = t.within;
        texts = t.texts;
        session = subst⁻¹ (λ (b : Bool). Session b (part input from.used to.used) t.texts to.swallowing) e
            (subst (λ (l : List ℕ). Session true l t.texts to.swallowing) whole (join (Session.swallowed (part input from.used end) Session.start (none_in_part u)) t.session));
        wrote = t.wrote;
      }
    where
      whole : part input from.used end ++ (10 ∷ []) ++ part input (end + 1) to.used ≡ part input from.used to.used
      whole = ap (λ (l : List ℕ). l ++ part input (end + 1) to.used) (sym (with_next input from.used end u.begun h (u.there h))) ∙ side_by_side input from.used (end + 1) to.used (omega (arith, u.begun)) t.onward

  pub swallow_line : {before after : Contents} {r : Result Place FullAt} → Block input (fresh (end + 1)) before after r → Block input from before after r
  swallow_line (Block.full t l) = Block.full (swallowed_through t) l
  swallow_line (Block.done t l n) = Block.done (swallowed_through t) l n
