-- Laws of a line: its carriage return, and how each kind of line comes to its answer.
use mathlib.Core.Path.{◌≡◌, refl, sym, ap, ◌∙◌}
use mathlib.Core.Bool.{Bool, true, false, true≢false, cond, ◌&&◌}
use mathlib.Core.List.{List, [], ◌∷◌, ◌++◌}
use Prim.Native.Nat.{ℕ, suc, ◌-◌, ◌≤◌}
use native.Mathlib.Omega.{arith}
use lib.Dec.{eqb}
use lib.ListN.{length, take, drop}
use lib.Pointwise.{pointwise}
use Rattle.std.specs.Prelude.{Result, IsOk}
use Rattle.text.specs.Page.{Contents}
use Rattle.text.specs.Put.{Put}
use Rattle.text.specs.declared.page.Full.{Full}
use Rattle.text.proofs.Writing.{then}
use Rattle.forms.specs.Says.{ROOM, Says}
use Rattle.desk_requests.specs.Answer.{Answer}
use Rattle.desk.specs.Line.{trimmed, RequestLine, Writes}

-- the carriage return
less_one : (n : ℕ) → suc (suc n) - 1 ≡ suc (suc n - 1)
less_one n = omega arith

abbrev ends : List ℕ → Bool
ends line = pointwise eqb (drop (length line - 1) line) (13 ∷ [])

ends_on : (c d : ℕ) (line : List ℕ) → ends (c ∷ d ∷ line) ≡ ends (d ∷ line)
ends_on c d line = ap (λ (n : ℕ). pointwise eqb (drop n (c ∷ d ∷ line)) (13 ∷ [])) (less_one (length line))

pub returned : (line : List ℕ) → ends line ≡ true → take (length line - 1) line ≡ trimmed line
returned [] e = absurd (true≢false (sym e))
returned (c ∷ []) e = by (eqb c 13) e
  where
    by : (b : Bool) → (b && true) ≡ true → [] ≡ cond b [] (c ∷ [])
    by true e = refl
    by false e = absurd (true≢false (sym e))
returned (c ∷ d ∷ line) e =
    ap (λ (n : ℕ). take n (c ∷ d ∷ line)) (less_one (length line)) ∙ ap (λ (l : List ℕ). c ∷ l) (returned (d ∷ line) (sym (ends_on c d line) ∙ e))

pub not_returned : (line : List ℕ) → ends line ≡ false → line ≡ trimmed line
not_returned [] e = refl
not_returned (c ∷ []) e = by (eqb c 13) e
  where
    by : (b : Bool) → (b && true) ≡ false → c ∷ [] ≡ cond b [] (c ∷ [])
    by true e = absurd (true≢false e)
    by false e = refl
not_returned (c ∷ d ∷ line) e = ap (λ (l : List ℕ). c ∷ l) (not_returned (d ∷ line) (sym (ends_on c d line) ∙ e))

-- a request and its newline
pub with_newline : {line : List (List ℕ)} {before middle after : Contents} (r : Result Unit Full) → ROOM ≤ length before.rest → Says (Answer line) before middle → Put (10 ∷ []) middle after r → IsOk r × Writes (RequestLine line) before after
with_newline r room s p =
    let w = p.fits (omega (arith, s.said.within, s.said.wrote.inside)) in
    (w.0, record { text = s.text ++ (10 ∷ []); right = RequestLine.answer s.text s.right; wrote = then s.said.wrote w.1 })
