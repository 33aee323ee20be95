-- What the two-stage search tells, as numbers: the two divisors, or the refusal.
use Rattle.std.specs.Prelude.{ℕ, List, [], ◌∷◌}
use Rattle.refusals.specs.Told.{Told, InWords}
use Rattle.two_stage.specs.Answer.{Right}
use Rattle.two_stage.specs.declared.DivisorPair.{DivisorPair}

abbrev pub pair_words : DivisorPair → List ℕ
pair_words p = p.div0 ∷ p.div1 ∷ []

abbrev pub TwoStageTells : ℕ → ℕ → ℕ → Told (List ℕ) → Type 0
TwoStageTells reference target largest = InWords pair_words (Right reference target largest)
