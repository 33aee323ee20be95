-- A run hands out one answer and leaves one set of rows. Assumes nothing.
use Prim.Native.Nat.{ℕ}
use mathlib.Core.Path.{◌≡◌, refl, ap}
use mathlib.Core.List.{List, []}
use native.Mathlib.Omega.{arith}
use Rattle.refusals.specs.Told.{Told, answered, refused}
use Rattle.pll_step.specs.declared.PllSequence.{PllSequence}
use Rattle.pll_seq.specs.Record.{Rows, Ended}
use Rattle.pll_seq.proofs.Unique as run
use Rattle.c_pll_start.specs.declared.Plan.{Plan}
use Rattle.c_pll_seq.specs.declared.Ran.{Ran}
use Rattle.c_pll_seq.specs.Ran.{handed, Tells, not_started, started, Runs, hands}

not_both : {A : Type 0} {t : Told PllSequence} {n : ℕ} {s : PllSequence} → t ≡ refused n [] → t ≡ answered s → A
not_both h g = absurd (let z : ◌≡◌ {A = ℕ} 0 1 = cc in omega arith)

tells : {plan : Plan} {reads : List ℕ} {before a b : Rows} {t u : Told Ended} → Tells plan reads before a t → Tells plan reads before b u → (a ≡ b) × (t ≡ u)
tells (not_started {n} h) (not_started {n = m} g) = let same : n ≡ m = cc in (refl, ap (λ (k : ℕ). refused k []) same)
tells (not_started h) (started g x) = not_both h g
tells (started h x) (not_started g) = not_both g h
tells (started h x) (started g y) = run.unique x y

pub unique : {plan : Plan} {reads : List ℕ} {before a b : Rows} {r q : Ran} → Runs plan reads before a r → Runs plan reads before b q → (a ≡ b) × (r ≡ q)
unique (hands h) (hands g) = let (rows, told) = tells h g in (rows, ap handed told)
