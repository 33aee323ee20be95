-- One law for every call: where its promise has one answer, one number and one row can be handed back. Assumes nothing.
use Prim.Native.Nat.{ℕ}
use mathlib.Core.Path.{◌≡◌, sym, ap, ◌∙◌}
use mathlib.Core.List.{List, ◌++◌}
use lib.ListN.{length, drop}
use Rattle.bounds.proofs.Bound.{both}
use Rattle.refusals.specs.Told.{Told, answered, refused, InWords}
use Rattle.handing.specs.Handed.{Given, Handed, coded}

-- a promise that one answer meets
abbrev pub Single : {A : Type 0} → (Told A → Type 0) → Type 0
Single {A} Right = (t u : Told A) → Right t → Right u → t ≡ u

abbrev in_words : {A : Type 0} → (A → List ℕ) → Told A → Told (List ℕ)
in_words words (answered a) = answered (words a)
in_words words (refused n carried) = refused n carried

pub single : {A : Type 0} {words : A → List ℕ} {Right : Told A → Type 0} → Single Right → Single (InWords words Right)
single {words = w} one _ _ (InWords.answer x) (InWords.answer y) = ap (in_words w) (one _ _ x y)
single {words = w} one _ _ (InWords.answer x) (InWords.refusal y) = ap (in_words w) (one _ _ x y)
single {words = w} one _ _ (InWords.refusal x) (InWords.answer y) = ap (in_words w) (one _ _ x y)
single {words = w} one _ _ (InWords.refusal x) (InWords.refusal y) = ap (in_words w) (one _ _ x y)

-- what a result comes to in the row
abbrev row : List ℕ → Told (List ℕ) → List ℕ
row before (answered words) = words ++ drop (length words) before
row before (refused n carried) = before

module _ {Tells : Told (List ℕ) → Type 0} (one : Single Tells) (before : List ℕ) where
  same : {t u : Told (List ℕ)} → t ≡ u → (coded t ≡ coded u) × (row before t ≡ row before u)
  same e = (ap coded e, ap (row before) e)

  pub one_given : {r q : ℕ} {a b : List ℕ} → Given Tells before r a → Given Tells before q b → (r ≡ q) × (a ≡ b)
  one_given (Given.refusal _ x) (Given.refusal _ y) = same (one _ _ x y)
  one_given (Given.refusal _ x) (Given.answer y) = same (one _ _ x y)
  one_given (Given.answer x) (Given.refusal _ y) = same (one _ _ x y)
  one_given (Given.answer x) (Given.answer y) = same (one _ _ x y)

-- two results that are handed back for the same row are equal
abbrev pub Settled : ℕ → (Told (List ℕ) → Type 0) → Type 0
Settled room Tells = (before : List ℕ) (r q : ℕ) (a b : List ℕ) → Handed room Tells before r a → Handed room Tells before q b → (r ≡ q) × (a ≡ b)

-- what a refusal promises by equations, one result and the row as it was, is settled
pub alike : {r q : ℕ} {a b : List ℕ} {n : ℕ} {before : List ℕ} → (r ≡ n) × (a ≡ before) → (q ≡ n) × (b ≡ before) → (r ≡ q) × (a ≡ b)
alike x y = (x.0 ∙ sym y.0, x.1 ∙ sym y.1)

pub settled : {room : ℕ} {Tells : Told (List ℕ) → Type 0} → Single Tells → Settled room Tells
settled one before r q a b = both (one_given one before) alike
