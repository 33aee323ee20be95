-- What a refusal carries: one number, or nothing.
use Rattle.std.specs.Prelude.{ℕ, Bool, not, ◌||◌, ◌&&◌, List, [], ◌∷◌, T, eqb, ltb, leb}
use Rattle.refusals.specs.Number.{DIVISOR_ZERO, OVERFLOW, MUL_RANGE, NO_ROOM, BAD_SETTINGS, BAD_FIELD}

-- those that carry a number: a module, the multiplier, how many there are, an offset
abbrev pub carries : ℕ → Bool
carries n = eqb n DIVISOR_ZERO || (eqb n OVERFLOW || (eqb n MUL_RANGE || (eqb n NO_ROOM || eqb n BAD_SETTINGS)))

-- the others; no refusal has the number 0, which is an answer's
abbrev pub carries_nothing : ℕ → Bool
carries_nothing n = ltb 0 n && (leb n BAD_FIELD && not (carries n))

-- what may stand behind a refusal's number
abbrev pub Carried : ℕ → List ℕ → Type 0
Carried n [] = T (carries_nothing n)
Carried n (c ∷ []) = T (carries n)
Carried n (c ∷ d ∷ more) = ⊥
