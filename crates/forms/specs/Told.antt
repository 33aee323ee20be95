-- What a call tells, as text: the words of an answer are printed by a form.
use Rattle.std.specs.Prelude.{ℕ, max, List, [], ◌∷◌}
use Rattle.refusals.specs.Told.{Told, answered, refused}
use Rattle.text.specs.Bytes.{bytes}
use Rattle.forms.specs.Form.{printed, most}

-- a refusal, and behind it what it carries
abbrev pub refusal_text : ℕ → List ℕ → List ℕ
refusal_text number [] = printed (bytes "refused #") (number ∷ [])
refusal_text number (carried ∷ _) = printed (bytes "refused # #") (number ∷ carried ∷ [])

-- the answer or the refusal
abbrev pub told_text : {A : Type 0} → List ℕ → Told A → List ℕ → List ℕ
told_text form (answered _) words = printed form words
told_text form (refused number carried) words = refusal_text number carried

-- the room that it wants
abbrev pub told_most : List ℕ → ℕ
told_most form = max (most form) 40
