-- Common divisors of two numbers. `d ∣ n` says that d divides n; every number divides 0.
use Rattle.std.specs.Prelude.{ℕ, ◌≡◌}
use Rattle.std.specs.Int.{◌∣◌}

-- the greatest: it divides both, and every common divisor divides it
pub record Greatest (a b g : ℕ) : Type 0 where
  pub first : g ∣ a
  pub second : g ∣ b
  pub common : (d : ℕ) → d ∣ a → d ∣ b → d ∣ g

-- no common divisor but 1
abbrev pub Coprime : ℕ → ℕ → Type 0
Coprime a b = (d : ℕ) → d ∣ a → d ∣ b → d ≡ 1
