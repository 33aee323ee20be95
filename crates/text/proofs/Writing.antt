-- Laws of what writers leave: how a run of bytes comes to its promise, and that what two writers leave one after the other
-- is what one writer of both texts would have left.
use mathlib.Core.Path.{◌≡◌, refl, sym, ap, ◌∙◌, subst}
use mathlib.Core.List.{List, [], ◌++◌, append_assoc, append-nil}
use Prim.Native.Nat.{ℕ, ◌+◌, ◌-◌, ◌≤◌}
use native.Mathlib.Nat.{add-zero}
use native.Mathlib.Omega.{arith}
use Rattle.std.specs.Borrow.{GName}
use lib.ListN.{length, take, drop, length-append, length-drop}
use lib.Seq.{drop-drop}
use borrow.Rule.Slice.PartMut.{put_mid}
use Rattle.std.specs.Prelude.{Result, Err, IsOk}
use Rattle.std.proofs.lemmas.Slice.{take-put_mid, drop-put_mid}
use Rattle.text.specs.Page.{Contents}
use Rattle.text.specs.Put.{Wrote, Put}
use Rattle.text.specs.declared.page.Full.{Full}

-- the bytes from a position up to `end`, with the text in their place
module _ (bytes text part : List ℕ) (at end : ℕ) (part_is : part ≡ text) (end_is : end ≡ at + length text) (inside : end ≤ length bytes) where
  long : length part ≡ length text
  long = ap length part_is

  text_is : take end (put_mid at (end - at) bytes part) ≡ take at bytes ++ text
  text_is = take-put_mid at (end - at) bytes part end (omega (arith, long)) (omega arith) ∙ ap (λ (t : List ℕ). take at bytes ++ t) part_is

  rest_is : drop end (put_mid at (end - at) bytes part) ≡ drop (length text) (drop at bytes)
  rest_is =
      drop-put_mid at (end - at) bytes part end (omega arith) (omega arith) (omega (arith, long))
      ∙ ap (λ (n : ℕ). drop n bytes) end_is
      ∙ sym (drop-drop (length text) at bytes)

  pub copied : (lent : GName) (before : Contents) → record { text = take at bytes; rest = drop at bytes; lent = lent } ≡ before → Wrote text before (record { text = take end (put_mid at (end - at) bytes part); rest = drop end (put_mid at (end - at) bytes part); lent = lent })
  copied lent before e =
      record {
        text_is = text_is ∙ ap (λ (p : Contents). p.text ++ text) e;
        rest_is = rest_is ∙ ap (λ (p : Contents). drop (length text) p.rest) e;
        inside = omega (arith, ap length rest_is, ap (λ (p : Contents). length p.rest) e, length-drop (length text) (drop at bytes), length-drop at bytes);
        same_buffer = ap (λ (p : Contents). p.lent) e;
      }

-- a text by another name
pub same_text : {t u : List ℕ} {before after : Contents} (r : Result Unit Full) → t ≡ u → Put t before after r → Put u before after r
same_text {before = before} {after} r e p = subst (λ (l : List ℕ). Put l before after r) e p

-- nothing written
pub nothing : (page : Contents) → Wrote [] page page
nothing page = record { text_is = sym (append-nil page.text); rest_is = refl; inside = add-zero (length page.rest); same_buffer = refl }

-- two writers in a row
pub then : {t u : List ℕ} {before middle after : Contents} → Wrote t before middle → Wrote u middle after → Wrote (t ++ u) before after
then {t} {u} {before} w v =
    record {
      text_is = v.text_is ∙ ap (λ (l : List ℕ). l ++ u) w.text_is ∙ append_assoc before.text t u;
      rest_is = v.rest_is ∙ ap (λ (l : List ℕ). drop (length u) l) w.rest_is ∙ drop-drop (length u) (length t) before.rest ∙ ap (λ (n : ℕ). drop n before.rest) (sym (length-append t u));
      inside = omega (arith, v.inside, w.inside, length-append t u);
      same_buffer = v.same_buffer ∙ w.same_buffer;
    }

-- a writer that has room does not refuse
pub never_full : {P : Type 0} (r : Result Unit Full) {e : Full} → IsOk r → r ≡ Err e → P
never_full r {e} ok is = absurd (let no : IsOk {T = Unit {0}} (Err e) = rw is at ok in cc)
