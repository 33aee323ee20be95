-- A step of a run that is taken, and of one that is not. Assumes nothing.
use Prim.Native.Nat.{ℕ}
use mathlib.Core.Path.{◌≡◌, ap}
use mathlib.Core.Bool.{Bool, true, false, cond}
use Rattle.refusals.specs.Number.{BAD_FIELD}
use Rattle.std.specs.Prelude.{Some, None}
use Rattle.pll_step.specs.declared.PllSequence.{PllSequence}
use Rattle.pll_step.specs.Step.{next}
use Rattle.c_pll_start.specs.declared.Run.{Run}
use Rattle.c_pll_start.specs.Step.{sequence_of, takes, sequence_in, given, nothing, stepped}

module _ (r : Run) (x : ℕ) where
  pub taken : takes r ≡ true → stepped r x ≡ given r.plan (next (sequence_of r) x)
  taken e = ap (λ (t : Bool). cond t (given r.plan (next (sequence_of r) x)) (nothing BAD_FIELD r)) e

  pub not_taken : takes r ≡ false → stepped r x ≡ nothing BAD_FIELD r
  not_taken e = ap (λ (t : Bool). cond t (given r.plan (next (sequence_of r) x)) (nothing BAD_FIELD r)) e

  -- a run whose numbers give a sequence
  pub in_sequence : {s : PllSequence} → Some s ≡ sequence_in r → given r.plan (next s x) ≡ stepped r x
  in_sequence {s} e = by (takes r) e
    where
      by : (t : Bool) → Some s ≡ cond t (Some (sequence_of r)) None →
          given r.plan (next s x) ≡ cond t (given r.plan (next (sequence_of r) x)) (nothing BAD_FIELD r)
      by true e = let same : s ≡ sequence_of r = cc in ap (λ (s : PllSequence). given r.plan (next s x)) same
      by false e = cc
