-- Two best pairs are one pair, so the I2C search has one right answer for each input.
-- Assumes nothing.
use mathlib.Core.Path.{◌≡◌, refl, sym, ap, ap₂, ◌∙◌}
use Prim.Native.Nat.{ℕ}
use native.Mathlib.Nat.{le_antisymm}
use native.Mathlib.Omega.{arith}
use Rattle.refusals.specs.Told.{Told, answered}
use Rattle.nearness.specs.Distance.{distance}
use Rattle.nearness.proofs.Rows as rows
use Rattle.i2c.specs.Divisors.{clock, Best, config, Right}
use Rattle.i2c.specs.declared.Speed.{Speed}
use Rattle.i2c.specs.declared.ClockConfig.{ClockConfig}

module _ {input target a b a' b' : ℕ} (p : Best input target a b) (q : Best input target a' b') where
  one_first : a ≡ a'
  one_first = rows.one_first (clock input) target 64 p.nearest q.nearest

  one_distance : distance (clock input a b) target ≡ distance (clock input a' b') target
  one_distance = rows.one_distance (clock input) target 64 p.nearest q.nearest

  one_second : b ≡ b'
  one_second =
      le_antisymm
      (p.smallest_second b' q.nearest.second_range (ap (λ (n : ℕ). distance (clock input n b') target) one_first ∙ sym one_distance))
      (q.smallest_second b p.nearest.second_range (ap (λ (n : ℕ). distance (clock input n b) target) (sym one_first) ∙ one_distance))

pub unique : {input : ℕ} {speed : Speed} {s t : Told ClockConfig} → Right input speed s → Right input speed t → s ≡ t
unique (Right.not_attainable h) (Right.not_attainable h') = refl
unique (Right.not_attainable h) (Right.found a b h' p) = absurd (omega arith)
unique (Right.found a b h p) (Right.not_attainable h') = absurd (omega arith)
unique (Right.found a b h p) (Right.found a' b' h' p') = ap₂ (λ (m n : ℕ). answered (config m n)) (one_first p p') (one_second p p')
