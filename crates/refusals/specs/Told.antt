-- What a call tells its caller, in document 01's words: an answer, or a refusal by its number with what it carries.
-- Each crate whose calls can refuse says by a definition `told` which of these each answer and each error is; its promises speak of that.
use Rattle.std.specs.Prelude.{ℕ, List}

pub data Told (A : Type 0) : Type 0 where
  answered : A → Told A
  refused : ℕ → List ℕ → Told A

-- The same as numbers alone, which is how programs in C and the desk are told: an answer's words in place of the answer. `words`
-- says what they are, and `Right` is the call's own promise.
pub data InWords {A : Type 0} (words : A → List ℕ) (Right : Told A → Type 0) : Told (List ℕ) → Type 0 where
  answer : {a : A} → Right (answered a) → InWords words Right (answered (words a))
  refusal : {n : ℕ} {carried : List ℕ} → Right (refused n carried) → InWords words Right (refused n carried)
