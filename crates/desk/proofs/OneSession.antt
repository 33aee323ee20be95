-- What is written for a run of input is settled: wherever a line that is too long was cut, its text is the same.
use mathlib.Core.Path.{◌≡◌, refl, sym, ap, ◌∙◌, subst}
use mathlib.Core.Bool.{Bool, true, false, cond}
use mathlib.Core.List.{List, [], ◌∷◌, ◌++◌, append_assoc, append-nil}
use mathlib.Core.Logic.{◌⊎◌, inl, inr}
use Prim.Native.Nat.{ℕ, suc, ◌+◌, ◌≤◌, ◌<◌, zero-le, suc-le-suc}
use native.Mathlib.Omega.{arith}
use borrow.Author.Tests.{ne_eqb, lt-ltb}
use lib.Dec.{eqb}
use lib.ListN.{length, length-append}
use Rattle.words.proofs.Choosing.{never}
use Rattle.desk.specs.Line.{trimmed, Kind, passed, too_long, kind_of, TextOf, Line}
use Rattle.desk.proofs.OneLine.{one_line}
use Rattle.desk.specs.Session.{NoNewline, Session}

-- the text of a line of more than 1025 bytes depends on its first byte alone
trimmed_length : (line : List ℕ) → length line ≤ length (trimmed line) + 1
trimmed_length [] = zero-le
trimmed_length (c ∷ []) = omega arith
trimmed_length (c ∷ d ∷ line) = omega (arith, trimmed_length (d ∷ line))

long_kind : (c d : ℕ) (line : List ℕ) → 1025 < length (c ∷ d ∷ line) → kind_of (trimmed (c ∷ d ∷ line)) ≡ cond (eqb c 35) passed too_long
long_kind c d line h = simp (lt-ltb 1024 (length (trimmed (c ∷ d ∷ line))) (omega (arith, trimmed_length (d ∷ line))))

any_line : (test : Bool) (l m text : List ℕ) → TextOf (cond test passed too_long) l text → TextOf (cond test passed too_long) m text
any_line true l m text t = t
any_line false l m text t = t

longer : (p : List ℕ) {text : List ℕ} (q : List ℕ) → 1025 < length p → Line p text → Line (p ++ q) text
longer [] q h t = absurd (omega arith)
longer (c ∷ []) q h t = absurd (omega arith)
longer (c ∷ d ∷ p) {text} q h t =
    record {
      text_is = subst (λ (k : Kind). TextOf k (trimmed (c ∷ d ∷ p ++ q)) text) (sym (long_kind c d (p ++ q) (omega (arith, length-append p q))))
          (any_line (eqb c 35) (trimmed (c ∷ d ∷ p)) (trimmed (c ∷ d ∷ p ++ q)) text (subst (λ (k : Kind). TextOf k (trimmed (c ∷ d ∷ p)) text) (long_kind c d p h) t.text_is));
    }

-- the lines of a run that end in it, and what is left of one: its bytes, or that it is swallowed
data Mark : Type 0 where
  within : List ℕ → Mark
  swallowing : Mark

abbrev step : Mark → ℕ → Mark
step (within p) c = cond (eqb c 10) (within []) (within (p ++ (c ∷ [])))
step swallowing c = cond (eqb c 10) (within []) swallowing

abbrev ended : Mark → ℕ → List (List ℕ)
ended (within p) c = cond (eqb c 10) (p ∷ []) []
ended swallowing c = []

abbrev run : Mark → List ℕ → Mark
run m [] = m
run m (c ∷ x) = run (step m c) x

abbrev lines : Mark → List ℕ → List (List ℕ)
lines m [] = []
lines m (c ∷ x) = ended m c ++ lines (step m c) x

run_more : (m : Mark) (x y : List ℕ) → run m (x ++ y) ≡ run (run m x) y
run_more m [] y = refl
run_more m (c ∷ x) y = run_more (step m c) x y

lines_more : (m : Mark) (x y : List ℕ) → lines m (x ++ y) ≡ lines m x ++ lines (run m x) y
lines_more m [] y = refl
lines_more m (c ∷ x) y = ap (λ (ls : List (List ℕ)). ended m c ++ ls) (lines_more (step m c) x y) ∙ sym (append_assoc (ended m c) (lines (step m c) x) (lines (run (step m c) x) y))

other : (c : ℕ) (l : List ℕ) → NoNewline (c ∷ l) → NoNewline l
other c l n k h e = n (suc k) (suc-le-suc h) e

a_piece : (p l : List ℕ) → NoNewline l → (run (within p) l ≡ within (p ++ l)) × (lines (within p) l ≡ [])
a_piece p [] n = (ap within (sym (append-nil p)), refl)
a_piece p (c ∷ l) n =
    let r = a_piece (p ++ (c ∷ [])) l (other c l n) in
    (simp (ne_eqb c 10 (n 0 (suc-le-suc zero-le))) (r.0 ∙ ap within (append_assoc p (c ∷ []) l)), simp (ne_eqb c 10 (n 0 (suc-le-suc zero-le))) r.1)

swallowed : (l : List ℕ) → NoNewline l → (run swallowing l ≡ swallowing) × (lines swallowing l ≡ [])
swallowed [] n = (refl, refl)
swallowed (c ∷ l) n =
    let r = swallowed l (other c l n) in
    (simp (ne_eqb c 10 (n 0 (suc-le-suc zero-le))) r.0, simp (ne_eqb c 10 (n 0 (suc-le-suc zero-le))) r.1)

-- answers one after the other
abbrev Texts : List (List ℕ) → List ℕ → Type 0
Texts [] t = t ≡ []
Texts (l ∷ ls) t = (u : List ℕ) × (v : List ℕ) × Line l u × Texts ls v × (t ≡ u ++ v)

one_more : (ls : List (List ℕ)) (l t : List ℕ) {u : List ℕ} → Texts ls t → Line l u → Texts (ls ++ (l ∷ [])) (t ++ u)
one_more [] l t {u} e w = (u, [], w, refl, ap (λ (s : List ℕ). s ++ u) e ∙ sym (append-nil u))
one_more (k ∷ ls) l t {u} (a, b, x, r, e) w = (a, b ++ u, x, one_more ls l b r w, ap (λ (s : List ℕ). s ++ u) e ∙ append_assoc a b u)

module _ (m : Mark) (x : List ℕ) where
  -- a piece without a newline behind a run
  piece_after : (p l : List ℕ) → run m x ≡ within p → NoNewline l → (run m (x ++ l) ≡ within (p ++ l)) × (lines m (x ++ l) ≡ lines m x)
  piece_after p l e n = let r = a_piece p l n in (run_more m x l ∙ ap (λ (k : Mark). run k l) e ∙ r.0, lines_more m x l ∙ ap (λ (k : Mark). lines m x ++ lines k l) e ∙ ap (λ (ls : List (List ℕ)). lines m x ++ ls) r.1 ∙ append-nil (lines m x))

  swallowed_after : (l : List ℕ) → run m x ≡ swallowing → NoNewline l → (run m (x ++ l) ≡ swallowing) × (lines m (x ++ l) ≡ lines m x)
  swallowed_after l e n = let r = swallowed l n in (run_more m x l ∙ ap (λ (k : Mark). run k l) e ∙ r.0, lines_more m x l ∙ ap (λ (k : Mark). lines m x ++ lines k l) e ∙ ap (λ (ls : List (List ℕ)). lines m x ++ ls) r.1 ∙ append-nil (lines m x))

  -- a newline behind a run
  line_ends : (p : List ℕ) → run m x ≡ within p → (run m (x ++ (10 ∷ [])) ≡ within []) × (lines m (x ++ (10 ∷ [])) ≡ lines m x ++ (p ∷ []))
  line_ends p e = (run_more m x (10 ∷ []) ∙ ap (λ (k : Mark). run k (10 ∷ [])) e, lines_more m x (10 ∷ []) ∙ ap (λ (k : Mark). lines m x ++ lines k (10 ∷ [])) e)

  swallow_ends : run m x ≡ swallowing → (run m (x ++ (10 ∷ [])) ≡ within []) × (lines m (x ++ (10 ∷ [])) ≡ lines m x)
  swallow_ends e = (run_more m x (10 ∷ []) ∙ ap (λ (k : Mark). run k (10 ∷ [])) e, lines_more m x (10 ∷ []) ∙ ap (λ (k : Mark). lines m x ++ lines k (10 ∷ [])) e ∙ append-nil (lines m x))

-- a line has begun that is too long, and has been answered
record Begun (m : Mark) (x t : List ℕ) : Type 0 where
  piece : List ℕ
  texts : List ℕ
  text : List ℕ
  long : 1025 < length piece
  run_is : run m x ≡ within piece
  before : Texts (lines m x) texts
  line : Line piece text
  is : t ≡ texts ++ text

-- What a session comes to, by whether the rest of a line is to be swallowed after it.
abbrev Told : Mark → List ℕ → List ℕ → Bool → Type 0
Told m x t false = (run m x ≡ within []) × Texts (lines m x) t
Told m x t true = ((run m x ≡ swallowing) × Texts (lines m x) t) ⊎ Begun m x t

as_texts : (t : List ℕ) {ls ks : List (List ℕ)} → ls ≡ ks → Texts ks t → Texts ls t
as_texts t e r = subst (λ (ls : List (List ℕ)). Texts ls t) (sym e) r

as_run : (m : Mark) (x y z t : List ℕ) (c : Bool) → Told m ((x ++ y) ++ z) t c → Told m (x ++ (y ++ z)) t c
as_run m x y z t c r = subst (λ (l : List ℕ). Told m l t c) (append_assoc x y z) r

module _ (m : Mark) (x l : List ℕ) (n : NoNewline l) where
  whole_line : (t : List ℕ) {text : List ℕ} → Told m x t false → Line l text → Told m (x ++ (l ++ (10 ∷ []))) (t ++ text) false
  whole_line t {text} r w =
      let p = piece_after m x [] l r.0 n in
      let q = line_ends m (x ++ l) l p.0 in
      as_run m x l (10 ∷ []) (t ++ text) false (q.0, as_texts (t ++ text) (q.1 ∙ ap (λ (ls : List (List ℕ)). ls ++ (l ∷ [])) p.1) (one_more (lines m x) l t r.1 w))

  begun : (t : List ℕ) {text : List ℕ} → 1025 < length l → Told m x t false → Line l text → Told m (x ++ l) (t ++ text) true
  begun t {text} h r w =
      let p = piece_after m x [] l r.0 n in
      inr (record { piece = l; texts = t; text = text; long = h; run_is = p.0; before = as_texts t p.1 r.1; line = w; is = refl })

  gone_on : (t : List ℕ) → Told m x t true → Told m (x ++ l) t true
  gone_on t (inl r) = let p = swallowed_after m x l r.0 n in inl (p.0, as_texts t p.1 r.1)
  gone_on t (inr r) =
      let p = piece_after m x r.piece l r.run_is n in
      inr (record { piece = r.piece ++ l; texts = r.texts; text = r.text; long = omega (arith, r.long, length-append r.piece l); run_is = p.0; before = as_texts r.texts p.1 r.before; line = longer r.piece l r.long r.line; is = r.is })

ends : (m : Mark) (x t : List ℕ) → Told m x t true → Told m (x ++ (10 ∷ [])) t false
ends m x t (inl r) = let q = swallow_ends m x r.0 in (q.0, as_texts t q.1 r.1)
ends m x t (inr r) = let q = line_ends m x r.piece r.run_is in (q.0, subst (λ (s : List ℕ). Texts (lines m (x ++ (10 ∷ []))) s) (sym r.is) (as_texts (r.texts ++ r.text) q.1 (one_more (lines m x) r.piece r.texts r.before r.line)))

abbrev begin : Bool → Mark
begin true = swallowing
begin false = within []

told : (b : Bool) {c : Bool} {x t : List ℕ} → Session b x t c → Told (begin b) x t c
told true Session.start = inl (refl, refl)
told false Session.start = (refl, refl)
told b (Session.line {input} {texts} l text s n w) = whole_line (begin b) input l n texts (told b s) w
told b (Session.too_long {input} {texts} l text s n h w) = begun (begin b) input l n texts h (told b s) w
told b (Session.swallow {input} {texts} l s n) = gone_on (begin b) input l n texts (told b s)
told b (Session.swallowed {input} {texts} l s n) = as_run (begin b) input l (10 ∷ []) texts false (ends (begin b) (input ++ l) texts (gone_on (begin b) input l n texts (told b s)))

nothing_begun : (m : Mark) (x : List ℕ) {t : List ℕ} → run m x ≡ within [] → Begun m x t → ⊥
nothing_begun m x e r = let f = r.run_is in let none : r.piece ≡ [] = cc in omega (arith, r.long, ap length none)

one_texts : (ls : List (List ℕ)) (s t : List ℕ) → Texts ls s → Texts ls t → s ≡ t
one_texts [] s t e f = e ∙ sym f
one_texts (l ∷ ls) s t (a, b, x, r, e) (c, d, y, q, f) = e ∙ ap (λ (u : List ℕ). u ++ b) (one_line x y) ∙ ap (λ (v : List ℕ). c ++ v) (one_texts ls b d r q) ∙ sym f

one_told : (m : Mark) (x s t : List ℕ) (c d : Bool) → Told m x s c → Told m x t d → (s ≡ t) × (c ≡ d)
one_told m x s t false false r q = (one_texts (lines m x) s t r.1 q.1, refl)
one_told m x s t false true r (inl q) = let e = r.0 in let f = q.0 in never (cc)
one_told m x s t false true r (inr q) = absurd (nothing_begun m x r.0 q)
one_told m x s t true false (inl r) q = let e = r.0 in let f = q.0 in never (cc)
one_told m x s t true false (inr r) q = absurd (nothing_begun m x q.0 r)
one_told m x s t true true (inl r) (inl q) = (one_texts (lines m x) s t r.1 q.1, refl)
one_told m x s t true true (inl r) (inr q) = let e = r.0 in let f = q.run_is in never (cc)
one_told m x s t true true (inr r) (inl q) = let e = r.run_is in let f = q.0 in never (cc)
one_told m x s t true true (inr r) (inr q) =
    let e = r.run_is in
    let f = q.run_is in
    let same : r.piece ≡ q.piece = cc in
    (r.is ∙ ap (λ (u : List ℕ). u ++ r.text) (one_texts (lines m x) r.texts q.texts r.before q.before) ∙ ap (λ (v : List ℕ). q.texts ++ v) (one_line (subst (λ (p : List ℕ). Line p r.text) same r.line) q.line) ∙ sym q.is, refl)

-- two sessions over the same input, from the same mark on, write the same and leave the same mark
pub one_session : (b : Bool) {c d : Bool} {x s t : List ℕ} → Session b x s c → Session b x t d → (s ≡ t) × (c ≡ d)
one_session b {c} {d} {x} {s} {t} p q = one_told (begin b) x s t c d (told b p) (told b q)
