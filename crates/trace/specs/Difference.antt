-- The first total less the second, with its sign.
use Rattle.std.specs.Prelude.{ℕ, ◌-◌, cond, ℤ, nat_lt}
use Rattle.std.proofs.Math.IntN.{sub_ℕ}

-- A signed number of 64 bits holds no more; no trace of up to MOST samples comes near (law `exact`).
abbrev pub capped : ℕ → ℕ
capped ticks = cond (nat_lt ticks 9_223_372_036_854_775_808) ticks 9_223_372_036_854_775_807

abbrev pub difference : ℕ → ℕ → ℤ
difference a b = sub_ℕ (capped (a - b)) (capped (b - a))
