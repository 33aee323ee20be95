-- What checks tell one after the other: three that share a refusal, three that share another, and then some that name another module.
-- Assumes nothing.
use Prim.Native.Nat.{ℕ}
use mathlib.Core.Path.{◌≡◌, ◌∙◌, refl, sym, ap}
use mathlib.Core.Logic.{◌⊎◌, inl, inr, ◌↔◌}
use mathlib.Core.Bool.{Bool, true, false, cond, false≢true}
use mathlib.Core.List.{List, [], ◌∷◌}
use native.Mathlib.Omega.{arith}
use borrow.Author.Tests.{eqb-false}
use lib.Dec.{eqb}
use Rattle.refusals.specs.Told.{Told, answered, refused}
use Rattle.refusals.specs.Number.{DIVISOR_ZERO, OVERFLOW}
use Rattle.clocks.specs.declared.Clocks.{Clocks}
use Rattle.clocks.specs.Module.{module_number}
use Rattle.checks.specs.declared.Check.{Check}
use Rattle.std.proofs.Common.{Err}
use Rattle.checks.specs.Check.{first_of, pick_reason, refusal}
use Rattle.evaluation.specs.Evaluated.{judged, pick_told}

-- the module that is named; 1 where none is
pub module_of : Told Clocks → ℕ
module_of (answered a) = 1
module_of (refused n []) = 1
module_of (refused n (m ∷ more)) = m

-- no check of a list names the PLLs
abbrev pub others : List Check → Bool
others [] = true
others (check ∷ more) = cond (eqb (module_number check.id) 0) false (others more)

module _ (test : Check → Bool) (clocks : Clocks) where
  -- the first check that is broken is told
  abbrev pub in_turn : List Check → Told Clocks
  in_turn [] = answered clocks
  in_turn (check ∷ rows) = pick_told (test check) (refusal check) (in_turn rows)

  pub told_in_turn : (rows : List Check) → judged (first_of test rows) (answered clocks) ≡ in_turn rows
  told_in_turn [] = refl
  told_in_turn (check ∷ rows) = by (test check) (told_in_turn rows)
    where
      by : (b : Bool) → judged (first_of test rows) (answered clocks) ≡ in_turn rows →
          judged (pick_reason b (Err check) (first_of test rows)) (answered clocks) ≡ pick_told b (refusal check) (in_turn rows)
      by true e = refl
      by false e = e

  -- checks that do not name the PLLs tell of another module, or of none
  pub elsewhere : (rows : List Check) → others rows ≡ true → module_of (in_turn rows) ≡ 0 → ⊥
  unfolding module_of
  elsewhere [] o e = omega (arith, e)
  elsewhere (check ∷ rows) o e = by (test check) (eqb (module_number check.id) 0) refl o e (elsewhere rows)
    where
      by : (b m : Bool) → eqb (module_number check.id) 0 ≡ m → cond m false (others rows) ≡ true →
          module_of (pick_told b (refusal check) (in_turn rows)) ≡ 0 → (others rows ≡ true → module_of (in_turn rows) ≡ 0 → ⊥) → ⊥
      by b true q o e later = false≢true o
      by true false q o e later = eqb-false (module_number check.id) 0 q e
      by false false q o e later = later o e

-- ---- three checks that share a refusal

abbrev pub Any : Bool → Bool → Bool → Type 0
Any a b c = (a ≡ true) ⊎ ((b ≡ true) ⊎ (c ≡ true))

abbrev pub thrice : Bool → Bool → Bool → Told Clocks → Told Clocks → Told Clocks
thrice a b c r t = pick_told a r (pick_told b r (pick_told c r t))

data Either (a b c : Bool) (r t : Told Clocks) : Type 0 where
  some : Any a b c → thrice a b c r t ≡ r → Either a b c r t
  none : (Any a b c → ⊥) → thrice a b c r t ≡ t → Either a b c r t

none_of : Any false false false → ⊥
none_of (inl e) = false≢true e
none_of (inr (inl e)) = false≢true e
none_of (inr (inr e)) = false≢true e

either : (a b c : Bool) (r t : Told Clocks) → Either a b c r t
either true b c r t = some (inl refl) refl
either false true c r t = some (inr (inl refl)) refl
either false false true r t = some (inr (inr refl)) refl
either false false false r t = none none_of refl

-- ---- the PLLs' six

abbrev pub two : Told Clocks
two = refused DIVISOR_ZERO (0 ∷ [])

abbrev pub three : Told Clocks
three = refused OVERFLOW (0 ∷ [])

two_is_not_three : two ≡ three → ⊥
two_is_not_three e = let z : ◌≡◌ {A = ℕ} 2 3 = cc in omega arith

-- the multipliers' checks, the outputs', and what is told behind them
module _ (a b c x y z : Bool) (rest : Told Clocks) (other : module_of rest ≡ 0 → ⊥) where
  abbrev outputs : Told Clocks
  outputs = thrice x y z three rest

  abbrev all : Told Clocks
  all = thrice a b c two outputs

  pub is_two : (all ≡ two) ↔ Any a b c
  unfolding module_of
  is_two = (λ e. from e (either a b c two outputs) (either x y z three rest), λ any. to any (either a b c two outputs))
    where
      from : all ≡ two → Either a b c two outputs → Either x y z three rest → Any a b c
      from e (some any p) after = any
      from e (none never p) (some any q) = absurd (two_is_not_three (sym e ∙ p ∙ q))
      from e (none never p) (none nor q) = absurd (other (ap module_of (sym (p ∙ q) ∙ e)))

      to : Any a b c → Either a b c two outputs → all ≡ two
      to any (some also p) = p
      to any (none never p) = absurd (never any)

  pub is_three : (all ≡ three) ↔ ((Any a b c → ⊥) × Any x y z)
  unfolding module_of
  is_three =
      (λ e. from e (either a b c two outputs) (either x y z three rest), λ h. to h (either a b c two outputs) (either x y z three rest))
    where
      from : all ≡ three → Either a b c two outputs → Either x y z three rest → (Any a b c → ⊥) × Any x y z
      from e (some any p) after = absurd (two_is_not_three (sym p ∙ e))
      from e (none never p) (some any q) = (never, any)
      from e (none never p) (none nor q) = absurd (other (ap module_of (sym (p ∙ q) ∙ e)))

      to : (Any a b c → ⊥) × Any x y z → Either a b c two outputs → Either x y z three rest → all ≡ three
      to h (some any p) after = absurd (h.0 any)
      to h (none never p) (some any q) = p ∙ q
      to h (none never p) (none nor q) = absurd (nor h.1)
