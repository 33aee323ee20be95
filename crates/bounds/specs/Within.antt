-- One thing is promised where a number is within a bound, and another where it is past it.
use Rattle.std.specs.Prelude.{ℕ, ◌≤◌, ◌<◌}

pub record Within (n most : ℕ) (Kept Past : Type 0) : Type 0 where
  pub fits : n ≤ most → Kept
  pub full : most < n → Past
