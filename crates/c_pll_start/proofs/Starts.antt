-- A start that is refused: no step takes its run, and it changes no mark. Assumes nothing.
use Prim.Native.Nat.{ℕ, zero, suc, ◌%◌, ◌/◌, ◌<◌, ◌≤◌}
use mathlib.Core.Path.{◌≡◌, refl}
use mathlib.Core.Bool.{Bool, true, false, cond, ◌&&◌}
use mathlib.Core.List.{List, []}
use native.Mathlib.Nat.{div-div-eq-div-mul}
use native.Mathlib.Omega.{arith}
use lib.Dec.{eqb, leb}
use borrow.Author.Tests.{ne_eqb, le-leb}
use Rattle.refusals.specs.Told.{Told, answered, refused}
use Rattle.refusals.specs.Number.{BAD_FIELD, ALREADY}
use Rattle.registers.specs.declared.PllType.{PllType}
use Rattle.pll_step.specs.declared.PllSequence.{PllSequence}
use Rattle.pll_start.specs.Start.{start, Once, marked, mark, once}
use Rattle.c_pll_start.specs.declared.Plan.{Plan}
use Rattle.c_pll_start.specs.Step.{pll_of, pll_plan_of, nothing, stepped}
use Rattle.c_pll_start.specs.Start.{start_of, not_started, flag, marks_of, with_marks, started_once}
use Rattle.c_pll_start.proofs.Stepped.{not_taken}

pub begins : (p : Plan) → (p.polls ≡ 0 → ⊥) → p.pll ≤ 2 → start_of p ≡ start (pll_plan_of p) p.polls
begins p h l = rw (ne_eqb _ _ h, le-leb _ _ l) refl

pub no_run : (p : Plan) (n y : ℕ) → stepped (not_started p n).run y ≡ nothing BAD_FIELD (not_started p n).run
no_run p n y = not_taken (not_started p n).run y (never (leb p.pll 2))
  where
    never : (t : Bool) → (t && false) ≡ false
    never true = refl
    never false = refl

-- ---- the marks

bit : (n : ℕ) → n < 2 → flag (eqb n 1) ≡ n
bit zero h = refl
bit (suc zero) h = refl
bit (suc (suc n)) h = absurd (omega arith)

same_marks : (n : ℕ) → with_marks n (marks_of n) ≡ n
same_marks n =
    omega (arith, bit (n % 2) (omega arith), bit (n / 2 % 2) (omega arith), bit (n / 4 % 2) (omega arith), div-div-eq-div-mul n 2 2, div-div-eq-div-mul n 4 2)

kept : (pll : PllType) (m : ℕ) (t : Told PllSequence) {n : ℕ} {ns : List ℕ} → (once pll t (marks_of m)).start ≡ refused n ns →
    with_marks m (once pll t (marks_of m)).marks ≡ m
kept pll m (refused k ks) e = same_marks m
kept pll m (answered s) {n} {ns} e = by (marked pll (marks_of m)) e
  where
    after : Bool → Once
    after t = cond t (record { start = refused ALREADY []; marks = marks_of m }) (record { start = answered s; marks = mark pll (marks_of m) })

    by : (t : Bool) → (after t).start ≡ refused n ns → with_marks m (after t).marks ≡ m
    by true e = same_marks m
    by false e = absurd (let z : ◌≡◌ {A = ℕ} 0 1 = cc in omega arith)

pub no_mark : (p : Plan) (m : ℕ) {n : ℕ} {ns : List ℕ} → (once (pll_of p.pll) (start_of p) (marks_of m)).start ≡ refused n ns → (started_once p m).marks ≡ m
no_mark p m e = kept (pll_of p.pll) m (start_of p) e
