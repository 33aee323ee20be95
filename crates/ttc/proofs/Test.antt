-- A test that computes whether what the TTC call tells is right, for tables of cases: a test that passes proves the rule.
-- Assumes nothing.
use mathlib.Core.Path.{◌≡◌, refl, sym, subst}
use mathlib.Core.Bool.{Bool, true, false, ◌&&◌}
use mathlib.Core.List.{[], ◌∷◌}
use Prim.Native.Nat.{ℕ, zero, suc, ◌<◌}
use native.Mathlib.Nat.{le_of_suc-le-suc, lt_of_lt_of_le, not-suc-le-zero}
use lib.Dec.{T, leb, ltb, eqb, leb→le, ltb→lt, eqb→eq}
use Rattle.tables.proofs.Table.{both}
use Rattle.std.specs.Prelude.{Option, None, Some}
use Rattle.refusals.specs.Told.{Told, answered, refused}
use Rattle.refusals.specs.Number.{ZERO_TARGET}
use Rattle.ttc.specs.Interval.{ticks, Least, prescaler, Right}
use Rattle.ttc.specs.declared.Setting.{Setting}
use Rattle.ttc.proofs.Laws.{falls}

-- the k that a prescaler stands for
abbrev pub halvings : Option ℕ → ℕ
halvings None = 0
halvings (Some p) = suc p

-- the ticks one halving earlier were too many; at 0 there is none earlier
abbrev pub earlier : ℕ → ℕ → ℕ → Bool
earlier reference frequency zero = true
earlier reference frequency (suc j) = ltb 65535 (ticks reference frequency j)

abbrev pub least : ℕ → ℕ → ℕ → Bool
least reference frequency k = leb (ticks reference frequency k) 65535 && earlier reference frequency k

abbrev pub test : ℕ → ℕ → Told Setting → Bool
test reference frequency (refused number []) = eqb frequency 0 && eqb number ZERO_TARGET
test reference frequency (refused number (carried ∷ more)) = false
test reference frequency (answered s) =
    let k = halvings s.prescaler_reg in
    ltb 0 frequency && (least reference frequency k && (leb k 16 && eqb (ticks reference frequency k) s.interval_ticks))

prescaler_halvings : (p : Option ℕ) → prescaler (halvings p) ≡ p
prescaler_halvings None = refl
prescaler_halvings (Some p) = refl

module _ (reference frequency : ℕ) where
  all_earlier : (k : ℕ) → T (earlier reference frequency k) → (j : ℕ) → j < k → 65535 < ticks reference frequency j
  all_earlier zero t j h = absurd (not-suc-le-zero h)
  all_earlier (suc i) t j h = lt_of_lt_of_le (ltb→lt _ _ t) (falls reference frequency (le_of_suc-le-suc h))

  least_sound : (k : ℕ) → T (least reference frequency k) → Least reference frequency k
  least_sound k t =
      let parts = both (leb (ticks reference frequency k) 65535) (earlier reference frequency k) t in
      record { fits = leb→le _ _ parts.0; least = all_earlier k parts.1 }

  pub sound : (tells : Told Setting) → T (test reference frequency tells) → Right reference frequency tells
  sound (refused number []) t =
      let parts = both (eqb frequency 0) (eqb number ZERO_TARGET) t in
      subst (λ (n : ℕ). Right reference frequency (refused n [])) (sym (eqb→eq number ZERO_TARGET parts.1)) (Right.zero_target (eqb→eq frequency 0 parts.0))
  sound (refused number (carried ∷ more)) t = absurd t
  sound (answered s) t =
      let k = halvings s.prescaler_reg in
      let some = both (ltb 0 frequency) _ t in
      let few = both (least reference frequency k) _ some.1 in
      let last = both (leb k 16) (eqb (ticks reference frequency k) s.interval_ticks) few.1 in
      let same = eqb→eq (ticks reference frequency k) s.interval_ticks last.1 in
      subst (Right reference frequency)
      (λ i. answered (record { prescaler_reg = prescaler_halvings s.prescaler_reg i; interval_ticks = same i }))
      (Right.found k (ltb→lt _ _ some.0) (least_sound k few.0) (leb→le _ _ last.0))
