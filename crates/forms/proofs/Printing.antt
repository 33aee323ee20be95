-- How long what a form prints is at most, and what stands on the page while it is gone through.
use mathlib.Core.Path.{◌≡◌, sym, ap, ◌∙◌, subst, subst⁻¹}
use mathlib.Core.Bool.{Bool, true, false, cond}
use mathlib.Core.List.{List, [], ◌∷◌, ◌++◌}
use Prim.Native.Nat.{ℕ, ◌+◌, ◌-◌, ◌≤◌, ◌<◌}
use native.Mathlib.Omega.{arith}
use borrow.Author.Tests.{eq-eqb, ne_eqb}
use lib.Dec.{lit≤, eqb}
use lib.ListN.{length, get_or, drop, length-append}
use lib.Seq.{get_or-drop}
use Rattle.std.specs.Prelude.{Result, IsOk}
use Rattle.text.specs.Bytes.{bytes}
use Rattle.text.specs.Digits.{decimal}
use Rattle.text.specs.Page.{Contents}
use Rattle.text.specs.Put.{Wrote, Put}
use Rattle.text.specs.declared.page.Full.{Full}
use Rattle.text.proofs.Digits.{decimal_short, length_hex}
use Rattle.forms.specs.declared.kind.Kind.{Kind}
use Rattle.forms.specs.declared.kind.Kind.TheVariants.{Number, Hex, Option, Clock, Space, Itself}
use Rattle.forms.specs.Form.{kind_of, item, takes, width, printed, most}
use Rattle.forms.specs.Says.{Said}
use Rattle.forms.proofs.Saying.{said}

either : (b : Bool) (x y : List ℕ) (m : ℕ) → length x ≤ m → length y ≤ m → length (cond b x y) ≤ m
either true x y m h k = h
either false x y m h k = k

item_short : (k : Kind) (byte word after : ℕ) → word < 4294967296 → length (item k byte word after) ≤ width k
item_short Number byte word after h = decimal_short word h
item_short Hex byte word after h = omega (arith, length_hex word)
item_short Option byte word after h = either (eqb word 0) (bytes "none") (decimal (word - 1)) 10 (lit≤ tt) (decimal_short (word - 1) (omega arith))
item_short Clock byte word after h = either (eqb after 0) (decimal word) (bytes "emio") 10 (decimal_short word h) (lit≤ tt)
item_short Space byte word after h = lit≤ tt
item_short Itself byte word after h = lit≤ tt

pub printed_short : (form words : List ℕ) → ((k : ℕ) → get_or words k 0 < 4294967296) → length (printed form words) ≤ most form
printed_short [] words small = lit≤ tt
printed_short (c ∷ form) words small =
    let one = item_short (kind_of c) c (get_or words 0 0) (get_or words 1 0) (small 0) in
    let others = printed_short form (drop (takes (kind_of c)) words) (λ k. subst⁻¹ (λ (n : ℕ). n < 4294967296) (get_or-drop (takes (kind_of c)) words k 0) (small (takes (kind_of c) + k))) in
    omega (arith, length-append (item (kind_of c) c (get_or words 0 0) (get_or words 1 0)) (printed form (drop (takes (kind_of c)) words)), one, others)

-- one item, by the kind that it is
pub said_item : (byte word after : ℕ) {k kind : Kind} {text : List ℕ} {before page : Contents} (r : Result Unit Full) → kind ≡ k → word < 4294967296 → width kind ≤ length before.rest → Put text before page r → item k byte word after ≡ text → IsOk r × Said (width kind) (item kind byte word after) before page
said_item byte word after {kind = kind} {before = before} {page} r e small room p is =
    said r (item_short kind byte word after small) room (subst (λ (t : List ℕ). Put t before page r) (sym is ∙ ap (λ (j : Kind). item j byte word after) (sym e)) p)

-- a word that may be none, and a clock
pub option_is : (byte word after : ℕ) {r : ℕ} → r ≡ word → (r ≡ 0 → ⊥) → item Option byte word after ≡ decimal (r - 1)
option_is byte word after e n = simp (ne_eqb word 0 (λ z. n (e ∙ z))) (ap (λ (m : ℕ). decimal (m - 1)) (sym e))

pub clock_is : (byte word after : ℕ) {r flag : ℕ} → r ≡ word → flag ≡ after → flag ≡ 0 → item Clock byte word after ≡ decimal r
clock_is byte word after e f z = simp (eq-eqb after 0 (sym f ∙ z)) (ap decimal (sym e))

-- ---- a form that is gone through
-- the room that is left for the rest of a form
pub record Fitting (form : List ℕ) (room left i : ℕ) : Type 0 where
  pub sum : room + most (drop i form) ≡ left + most form

-- after i bytes of the form
pub record Printing (form words : List ℕ) (before page : Contents) (left : List ℕ) (i : ℕ) : Type 0 where
  pub room : most form ≤ length before.rest
  pub text : List ℕ
  pub wrote : Wrote text before page
  pub whole : printed form words ≡ text ++ printed (drop i form) left
  pub within : length text + most (drop i form) ≤ most form
