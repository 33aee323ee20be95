-- What the TTC calculation tells, as numbers: document 01's k and the ticks, or the refusal.
use Rattle.std.specs.Prelude.{ℕ, ◌+◌, List, [], ◌∷◌, Option, None, Some}
use Rattle.refusals.specs.Told.{Told, InWords}
use Rattle.ttc.specs.Interval.{Right}
use Rattle.ttc.specs.declared.Setting.{Setting}

-- k: 0 for no prescaler, else its value and 1
abbrev pub prescaler_word : Option ℕ → ℕ
prescaler_word None = 0
prescaler_word (Some p) = p + 1

abbrev pub interval_words : Setting → List ℕ
interval_words s = prescaler_word s.prescaler_reg ∷ s.interval_ticks ∷ []

abbrev pub TtcTells : ℕ → ℕ → Told (List ℕ) → Type 0
TtcTells reference frequency = InWords interval_words (Right reference frequency)
