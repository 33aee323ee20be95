-- A locked run ends in the write that releases its PLL, and evaluation finds it in use. Assumes nothing.
use Prim.Native.Nat.{ℕ, zero, suc, ◌*◌}
use mathlib.Core.Path.{◌≡◌, ◌∙◌, refl, sym, ap}
use mathlib.Core.Bool.{Bool, true, false, cond}
use mathlib.Core.List.{List, [], ◌∷◌, ◌++◌}
use native.Mathlib.Omega.{arith}
use lib.ListN.{take}
use Rattle.refusals.specs.Told.{answered}
use Rattle.fields.specs.declared.Field.{Field}
use Rattle.fields.specs.Word.{read_field, set_field}
use Rattle.fields.proofs.Laws.{read_set_fits}
use Rattle.registers.specs.declared.PllType.{PllType}
use Rattle.registers.specs.declared.PllType.TheVariants.{Arm, Ddr, Io}
use Rattle.registers.specs.Fields.{BYPASS_FORCE, FDIV}
use Rattle.registers.specs.Plls.{pll_ctrl}
use Rattle.registers.specs.Words.{word}
use Rattle.sources.specs.Source.{output_of, pll_output}
use Rattle.sources.proofs.Laws.{multiplied}
use Rattle.clocks.specs.declared.Clocks.{Clocks}
use Rattle.std.proofs.Common.{Ok, Err}
use Rattle.checks.specs.Check.{Reason, reason}
use Rattle.evaluation.specs.Evaluated.{evaluated, judged}
use Rattle.evaluation.specs.Formulas.{clocks_of}
use Rattle.clocks.specs.Whole.{outputs_in}
use Rattle.pll_rows.specs.declared.PllPlan.{PllPlan}
use Rattle.pll_rows.specs.Sequence.{Row, read, write, poll, Access, Log, locked, timed_out, starved, a_read, a_write, after, seen, reads, polls, log, sequence, accesses_of}
use Rattle.bypass.specs.InUse.{InUse}
use Rattle.bypass.proofs.Refusals.{of_50}

-- ---- the last access

-- the last access writes what f makes of some word
record EndsIn (j : ℕ) (f : ℕ → ℕ) (l : Log) : Type 0 where
  earlier : List Access
  from : ℕ
  last : l.accesses ≡ earlier ++ (a_write j (f from) ∷ [])

starved_is_not_locked : starved ≡ locked → ⊥
starved_is_not_locked e = let z : ◌≡◌ {A = ℕ} 0 1 = cc in omega arith

timed_out_is_not_locked : timed_out ≡ locked → ⊥
timed_out_is_not_locked e = let z : ◌≡◌ {A = ℕ} 0 1 = cc in omega arith

module _ (j : ℕ) (f : ℕ → ℕ) where
  abbrev Ends : Log → Type 0
  Ends l = l.end ≡ locked → EndsIn j f l

  more : (a : Access) (l : Log) → Ends l → Ends (after a l)
  more a l h e =
      let u = h e in
      record { earlier = a ∷ u.earlier; from = u.from; last = ap (λ (k : List Access). a ∷ k) u.last }

  reads_end : (i : ℕ) (go : ℕ → List ℕ → Log) → ((x : ℕ) (words : List ℕ) → Ends (go x words)) → (words : List ℕ) → Ends (reads i go words)
  reads_end i go h [] e = absurd (starved_is_not_locked e)
  reads_end i go h (x ∷ words) e = more (a_read i x) (go x words) (h x words) e

  either : (shown : Bool) (l k : Log) → Ends l → Ends k → Ends (cond shown l k)
  either true l k p q = p
  either false l k p q = q

  polls_end : (i : ℕ) (bit : Field) (go : ℕ → ℕ → List ℕ → Log) → ((n x : ℕ) (words : List ℕ) → Ends (go n x words)) →
      (n : ℕ) (words : List ℕ) → Ends (polls i bit go n words)
  polls_end i bit go h zero words e = absurd (timed_out_is_not_locked e)
  polls_end i bit go h (suc n) [] e = absurd (starved_is_not_locked e)
  polls_end i bit go h (suc n) (x ∷ words) e =
      more (a_read i x) (cond (seen x bit) (go n x words) (polls i bit go n words))
      (either (seen x bit) (go n x words) (polls i bit go n words) (h n x words) (polls_end i bit go h n words)) e

  ends : (rows : List Row) (n w : ℕ) (words : List ℕ) → Ends (log (rows ++ (write j f ∷ [])) n w words)
  ends [] n w words e = record { earlier = []; from = w; last = refl }
  ends (read i ∷ rows) n w words e = reads_end i (log (rows ++ (write j f ∷ [])) n) (ends rows n) words e
  ends (write i g ∷ rows) n w words e = more (a_write i (g w)) (log (rows ++ (write j f ∷ [])) n (g w) words) (ends rows n (g w) words) e
  ends (poll i bit ∷ rows) n w words e = polls_end i bit (log (rows ++ (write j f ∷ []))) (ends rows) n words e

-- ---- the evaluation

-- an answer is the record that the formulas give
only_answer : (crystal : ℕ) (image : List ℕ) (clocks : Clocks) → evaluated crystal image ≡ answered clocks → clocks_of crystal image ≡ clocks
only_answer crystal image clocks e =
    by (reason crystal image) (of_50 crystal image (answered clocks) (λ f. let z : ◌≡◌ {A = ℕ} 0 1 = cc in omega arith) e).1
  where
    by : (r : Reason) → judged r (answered (clocks_of crystal image)) ≡ answered clocks → clocks_of crystal image ≡ clocks
    by (Ok _) f = cc
    by (Err check) f = let z : ◌≡◌ {A = ℕ} 0 1 = cc in absurd (omega arith)

pll_of : (crystal : ℕ) (image : List ℕ) (pll : PllType) →
    output_of (outputs_in (clocks_of crystal image)) pll ≡ pll_output crystal (word image (pll_ctrl pll))
pll_of crystal image Arm = refl
pll_of crystal image Ddr = refl
pll_of crystal image Io = refl

-- a word with the force bit 0, in an image that is evaluated
multiplies : (pll : PllType) (w : ℕ) → read_field w BYPASS_FORCE ≡ 0 → (crystal : ℕ) (image : List ℕ) (clocks : Clocks) →
    word image (pll_ctrl pll) ≡ w → evaluated crystal image ≡ answered clocks → output_of (outputs_in clocks) pll ≡ crystal * read_field w FDIV
multiplies pll w released crystal image clocks has e =
    ap (λ (c : Clocks). output_of (outputs_in c) pll) (sym (only_answer crystal image clocks e))
    ∙ pll_of crystal image pll
    ∙ ap (pll_output crystal) has
    ∙ multiplied crystal w (λ h. omega (arith, released, h))

-- ---- both

pub in_use : (plan : PllPlan) (limit : ℕ) (words : List ℕ) → (accesses_of plan limit words).end ≡ locked →
    InUse plan (accesses_of plan limit words)
in_use plan limit words e =
    let u = ends (pll_ctrl plan.pll) (λ w. set_field w BYPASS_FORCE 0) (take 11 (sequence plan)) limit 0 words e in
    let released = read_set_fits u.from BYPASS_FORCE 0 (omega arith) in
    record {
      earlier = u.earlier;
      last_word = set_field u.from BYPASS_FORCE 0;
      last_access = u.last;
      released = released;
      multiplies = multiplies plan.pll (set_field u.from BYPASS_FORCE 0) released;
    }
