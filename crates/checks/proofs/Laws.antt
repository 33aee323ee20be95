-- The laws of the checks' order: the first broken check is broken, none before it is, and of several that are broken the first is
-- given. Assumes nothing.
use mathlib.Core.Path.{◌≡◌, ◌∙◌, refl, sym, ap}
use mathlib.Core.Bool.{Bool, true, false}
use mathlib.Core.List.{List, [], ◌∷◌, ◌++◌}
use Prim.Native.Nat.{ℕ, zero, suc, ◌<◌}
use native.Mathlib.Nat.{le_of_suc-le-suc}
use native.Mathlib.Omega.{arith}
use lib.ListN.{length, get_or}
use Rattle.checks.specs.declared.Check.{Check}
use Rattle.std.proofs.Common.{Ok, Err}
use Rattle.checks.specs.Check.{Reason, checks, pll_checks, cpu_ddr_checks, io_checks, pl_checks, first_of, pick_reason}

-- a reason, or else another
abbrev pub or_else : Reason → Reason → Reason
or_else (Ok _) b = b
or_else (Err check) b = Err check

module _ (test : Check → Bool) where
  pub take : (check : Check) (more : List Check) → test check ≡ true → first_of test (check ∷ more) ≡ Err check
  take check more b = rw b

  pub skip : (check : Check) (more : List Check) → test check ≡ false → first_of test (check ∷ more) ≡ first_of test more
  skip check more b = rw b

  -- rows one after the other: the reason of the first row that has one
  one_row : (row more : List Check) → first_of test (row ++ more) ≡ or_else (first_of test row) (first_of test more)
  one_row [] more = refl
  one_row (check ∷ row) more = by (test check) (one_row row more)
    where
      by : (b : Bool) → first_of test (row ++ more) ≡ or_else (first_of test row) (first_of test more) →
          pick_reason b (Err check) (first_of test (row ++ more)) ≡ or_else (pick_reason b (Err check) (first_of test row)) (first_of test more)
      by true e = refl
      by false e = e

  pub in_rows :
      first_of test checks
      ≡ or_else (first_of test pll_checks) (or_else (first_of test cpu_ddr_checks) (or_else (first_of test io_checks) (first_of test pl_checks)))
  in_rows =
      one_row pll_checks (cpu_ddr_checks ++ io_checks ++ pl_checks)
      ∙ ap (or_else (first_of test pll_checks))
      (one_row cpu_ddr_checks (io_checks ++ pl_checks) ∙ ap (or_else (first_of test cpu_ddr_checks)) (one_row io_checks pl_checks))

  -- no check of a list is broken
  pub data Clear : List Check → Type 0 where
    none : Clear []
    one_more : {check : Check} {more : List Check} → test check ≡ false → Clear more → Clear (check ∷ more)

  -- what stands before a broken check decides nothing where none of it is broken: that check is the reason, whatever comes after
  pub first : {before : List Check} → Clear before → (check : Check) (after : List Check) → test check ≡ true →
      first_of test (before ++ (check ∷ after)) ≡ Err check
  first none check after b = take check after b
  first (one_more {check = c} {more = m} f clear) check after b =
      skip c (m ++ (check ∷ after)) f ∙ first clear check after b

  -- and every reason is of that kind
  pub record Given (all : List Check) (check : Check) : Type 0 where
    pub before : List Check
    pub after : List Check
    pub split : all ≡ before ++ (check ∷ after)
    pub clear : Clear before
    pub broke : test check ≡ true

  given_at : (c : Check) (more : List Check) (check : Check) → (first_of test more ≡ Err check → Given more check) →
      (b : Bool) → test c ≡ b → pick_reason b (Err c) (first_of test more) ≡ Err check → Given (c ∷ more) check
  given_at c more check later true t e =
      let same : c ≡ check = cc in
      record {
        before = [];
        after = more;
        split = ap (λ (k : Check). k ∷ more) same;
        clear = none;
        broke = ap test (sym same) ∙ t;
      }
  given_at c more check later false t e =
      let g = later e in
      record {
        before = c ∷ g.before;
        after = g.after;
        split = ap (λ (l : List Check). c ∷ l) g.split;
        clear = one_more t g.clear;
        broke = g.broke;
      }

  pub given : (all : List Check) (check : Check) → first_of test all ≡ Err check → Given all check
  given [] check e = let z : ◌≡◌ {A = ℕ} 0 1 = cc in absurd (omega arith)
  given (c ∷ more) check e = given_at c more check (given more check) (test c) refl e

  clear_at : (c : Check) (more : List Check) → (first_of test more ≡ Ok tt → Clear more) →
      (b : Bool) → test c ≡ b → pick_reason b (Err c) (first_of test more) ≡ Ok tt → Clear (c ∷ more)
  clear_at c more later true t e = let z : ◌≡◌ {A = ℕ} 0 1 = cc in absurd (omega arith)
  clear_at c more later false t e = one_more t (later e)

  pub all_clear : (all : List Check) → first_of test all ≡ Ok tt → Clear all
  all_clear [] e = none
  all_clear (c ∷ more) e = clear_at c more (all_clear more) (test c) refl e

  -- each check of a clear list holds
  pub holds : {all : List Check} → Clear all → (at : ℕ) (past : Check) → at < length all → test (get_or all at past) ≡ false
  holds none at past h = absurd (omega arith)
  holds (one_more f clear) zero past h = f
  holds (one_more f clear) (suc at) past h = holds clear at past (le_of_suc-le-suc h)
