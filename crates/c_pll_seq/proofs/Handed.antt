-- What a run tells, by what its start and its recording tell. Assumes nothing.
use Prim.Native.Nat.{ℕ}
use mathlib.Core.Path.{◌≡◌, subst, sym}
use mathlib.Core.Bool.{Bool, true, false, cond}
use mathlib.Core.List.{List, []}
use lib.Dec.{eqb, leb}
use Rattle.refusals.specs.Told.{Told, answered, refused}
use Rattle.refusals.specs.Number.{BAD_LIMIT, BAD_FIELD}
use Rattle.refusals.specs.Refusal.{number_of}
use Rattle.std.specs.Prelude.{Err}
use Rattle.pll_step.specs.declared.PllSequence.{PllSequence}
use Rattle.pll_start.specs.declared.StartError.{StartError}
use Rattle.pll_start.specs.declared.StartError.TheVariants.{BadLimit, BadField, Already}
use Rattle.pll_start.specs.Start.{fits, begun, refusal_of, told}
use Rattle.pll_seq.specs.Record.{Rows, Ended, Recorded}
use Rattle.c_pll_start.specs.declared.Plan.{Plan}
use Rattle.c_pll_start.specs.Step.{config_of, pll_plan_of}
use Rattle.c_pll_start.specs.Start.{start_of}
use Rattle.c_pll_seq.specs.Ran.{Tells, not_started, started}

-- a start that goes through is at its plan's first row, with all its polls
begins : (p : Plan) {s : PllSequence} → start_of p ≡ answered s → s ≡ begun (pll_plan_of p) p.polls
begins p {s} e = by (eqb p.polls 0) (leb p.pll 2) (fits (config_of p)) e
  where
    by : (none three fit : Bool) →
        cond none (refused BAD_LIMIT []) (cond three (cond none (refused BAD_LIMIT []) (cond fit (answered (begun (pll_plan_of p) p.polls)) (refused BAD_FIELD []))) (refused BAD_FIELD [])) ≡ answered s →
        s ≡ begun (pll_plan_of p) p.polls
    by true three fit e = cc
    by false true true e = cc
    by false true false e = cc
    by false false fit e = cc

module _ {plan : Plan} {reads : List ℕ} {before : Rows} where
  pub refuses : (e : StartError) → told (Err e) ≡ start_of plan → Tells plan reads before before (refused (number_of (refusal_of e)) [])
  refuses BadLimit h = not_started (sym h)
  refuses BadField h = not_started (sym h)
  refuses Already h = not_started (sym h)

  pub ran : {after : Rows} {t : Told Ended} {s : PllSequence} → start_of plan ≡ answered s → Recorded s.plan s.place.polls reads before after t →
      Tells plan reads before after t
  ran {after} {t} e h = started e (subst (λ (s : PllSequence). Recorded s.plan s.place.polls reads before after t) (begins plan e) h)
