-- A line has one right text, and one result where it is written.
use mathlib.Core.Path.{◌≡◌, refl, sym, ap, ◌∙◌, subst}
use mathlib.Core.Bool.{true≢false}
use mathlib.Core.List.{List, [], ◌∷◌, ◌++◌}
use Prim.Native.Nat.{ℕ}
use Rattle.std.specs.Prelude.{Result, Ok, Err, IsOk, IsErr}
use Rattle.bounds.proofs.Bound.{both}
use Rattle.text.specs.Page.{Contents}
use Rattle.text.specs.Put.{Wrote}
use Rattle.text.specs.declared.page.Full.{Full}
use Rattle.words.specs.Words.{words}
use Rattle.desk_requests.proofs.Settled.{one_answer}
use Rattle.desk.specs.Line.{trimmed, RequestLine, Kind, passed, too_long, request, kind_of, TextOf, Line, LineAnswered}

one_request : (line : List (List ℕ)) {s t : List ℕ} → RequestLine line s → RequestLine line t → s ≡ t
one_request line (RequestLine.answer s x) (RequestLine.answer t y) = ap (λ (text : List ℕ). text ++ (10 ∷ [])) (one_answer line s t x y)

one_text : (kind : Kind) (line : List ℕ) {s t : List ℕ} → TextOf kind line s → TextOf kind line t → s ≡ t
one_text passed line x y = x ∙ sym y
one_text too_long line x y = x ∙ sym y
one_text request line x y = one_request (words line) x y

pub one_line : {line s t : List ℕ} → Line line s → Line line t → s ≡ t
one_line {line} x y = one_text (kind_of (trimmed line)) (trimmed line) x.text_is y.text_is

-- a text leaves one page
one_page : {text : List ℕ} {before a b : Contents} → Wrote text before a → Wrote text before b → a ≡ b
one_page w v = let t = w.text_is ∙ sym v.text_is in
    let r = w.rest_is ∙ sym v.rest_is in
    let l = w.same_buffer ∙ sym v.same_buffer in
    λ i. record { text = t i; rest = r i; lent = l i }

same_ok : (r q : Result Unit Full) → IsOk r → IsOk q → r ≡ q
same_ok (Ok x) (Ok y) e f = refl
same_ok (Ok x) (Err q) e f = absurd (true≢false (sym f))
same_ok (Err r) q e f = absurd (true≢false (sym e))

same_err : (r q : Result Unit Full) → IsErr r → IsErr q → r ≡ q
same_err (Err r) (Err q) e f = refl
same_err (Err r) (Ok x) e f = absurd (true≢false (sym f))
same_err (Ok x) q e f = absurd (true≢false (sym e))

pub unique : (line : List ℕ) (before : Contents) {a b : Contents} (r q : Result Unit Full) → LineAnswered line before a r → LineAnswered line before b q → (r ≡ q) × (a ≡ b)
unique line before {b = b} r q = both
    (λ x y. (same_ok r q x.0 y.0, one_page x.1.wrote (subst (λ (text : List ℕ). Wrote text before b) (one_line y.1.right x.1.right) y.1.wrote)))
    (λ x y. (same_err r q x.0 y.0, x.1 ∙ sym y.1))
