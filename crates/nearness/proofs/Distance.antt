-- The laws of the distance of two naturals. With `over` and `under` omega takes a distance as one unknown.
-- Assumes nothing.
use Prim.Native.Nat.{ℕ, ◌+◌, ◌≤◌, ◌<◌}
use mathlib.Core.Path.{◌≡◌}
use mathlib.Core.Logic.{◌⊎◌, inl, inr}
use native.Mathlib.Decide.{dec_le}
use native.Mathlib.Nat.{lt_of_not-le}
use native.Mathlib.Omega.{arith}
use Rattle.nearness.specs.Distance.{distance}

pub over : (a t : ℕ) → t ≤ a → t + distance a t ≡ a
unfolding distance
over a t h = omega arith

pub under : (a t : ℕ) → a ≤ t → a + distance a t ≡ t
unfolding distance
under a t h = omega arith

pub symmetric : (a b : ℕ) → distance a b ≡ distance b a
unfolding distance
symmetric a b = omega arith

pub self : (a : ℕ) → distance a a ≡ 0
unfolding distance
self a = omega arith

pub zero : (a b : ℕ) → distance a b ≡ 0 → a ≡ b
unfolding distance
zero a b h = omega arith

-- farther on the same side is farther
pub farther_over : (t a b : ℕ) → t ≤ a → a ≤ b → distance a t ≤ distance b t
unfolding distance
farther_over t a b h l = omega arith

pub farther_under : (t a b : ℕ) → a ≤ t → b ≤ a → distance a t ≤ distance b t
unfolding distance
farther_under t a b h l = omega arith

pub le_or_lt : (a b : ℕ) → (a ≤ b) ⊎ (b < a)
le_or_lt a b = elim (dec_le a b) [ yes h ↦ inl h | no h ↦ inr (lt_of_not-le h) ]
