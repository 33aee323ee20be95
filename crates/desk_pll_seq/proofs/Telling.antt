-- A run that was made is printed whole, and one that was not is its refusal.
use mathlib.Core.Path.{◌≡◌, refl, sym, ap, ◌∙◌, subst}
use mathlib.Core.Logic.{◌⊎◌, ⊎_elim}
use mathlib.Core.List.{List, [], ◌∷◌, ◌++◌}
use Prim.Native.Nat.{ℕ, ◌+◌, ◌-◌, ◌≤◌, ◌<◌}
use native.Mathlib.Omega.{arith}
use lib.Dec.{lit≤}
use lib.ListN.{length, take, drop, length-take, length-drop, drop_of_length-le}
use lib.Seq.{take_all}
use Rattle.refusals.specs.Refusal.{number_of}
use Rattle.refusals.specs.Told.{Told, answered, refused}
use denote.Ref.{Bor}
use Rattle.std.specs.Prelude.{Ok, Err, Option, Some, None, MatchOption, min}
use Rattle.std.specs.Option.{unwrap_or}
use Rattle.std.specs.List.{slice_range}
use Rattle.std.proofs.lemmas.List.{take_min}
use Rattle.std.proofs.Math.Nat.{min_comm}
use Rattle.text.specs.Page.{Contents}
use Rattle.text.specs.Bytes.{bytes}
use Rattle.forms.specs.Form.{printed}
use Rattle.forms.specs.Says.{Said}
use Rattle.forms.proofs.Saying.{within}
use Rattle.pll_rows.specs.Sequence.{Access, Log, accesses_of}
use Rattle.pll_step.specs.declared.PllSequence.{PllSequence}
use Rattle.pll_seq.specs.declared.Ran as run
use Rattle.pll_seq.specs.Record.{Rows, Ended, Room, Short, most, written, ending, no_room, recorded}
use Rattle.pll_seq.proofs.Few.{few}
use Rattle.c_pll_start.specs.declared.Plan.{Plan}
use Rattle.c_pll_start.specs.Step.{pll_plan_of}
use Rattle.c_pll_start.specs.Start.{start_of}
use Rattle.c_pll_seq.specs.declared.SeqError.{SeqError}
use Rattle.c_pll_seq.specs.declared.SeqError.TheVariants.{NotStarted, NoRoom}
use Rattle.c_pll_seq.specs.Ran.{end_number, refusal_of, told, Tells, not_started, started}
use Rattle.desk_pll_seq.specs.Printed.{accesses, ended, firsts}
use Rattle.desk_pll_seq.specs.Request.{host_words, run_text}
use Rattle.desk_pll_seq.proofs.Writing.{read_back}

not_both : {n : ℕ} {r : Rows} → Short n r → Room n r → ⊥
not_both short room = ⊎_elim (λ h. omega arith) (⊎_elim (λ h. omega arith) (λ h. omega arith)) short

-- ---- what is told

abbrev number_told : Told Ended → ℕ
number_told (answered e) = 0
number_told (refused n ns) = n

same_number : (e : SeqError) → number_told (told (Err e)) ≡ number_of (refusal_of e)
same_number (NotStarted e) = refl
same_number (NoRoom e) = refl

abbrev ended_told : Ended → Told Ended → Ended
ended_told d (answered e) = e
ended_told d (refused n ns) = d

no_answer : {d : Ended} (e : SeqError) → answered d ≡ told (Err e) → ⊥
no_answer (NotStarted e) h = cc
no_answer (NoRoom e) h = cc

abbrev ended_of : run.Ran → Ended
ended_of r = record { end = ending r.end; accesses = r.accesses }

module _ (plan : Plan) (reads : List ℕ) {before : Rows} (room : Room (most reads) before) where
  abbrev log : Log
  log = accesses_of (pll_plan_of plan) plan.polls reads

  abbrev logged : Ended
  logged = record { end = log.end; accesses = length log.accesses }

  -- the run was made
  made : {after : Rows} (r : run.Ran) {t : Told Ended} → Tells plan reads before after t → t ≡ told (Ok r) →
      (s : PllSequence) × (start_of plan ≡ answered s) × (after ≡ written log.accesses before) × (logged ≡ ended_of r)
  made r (not_started e) h = cc
  made r (started e (no_room short)) h = cc
  made r (started {s} e (recorded g)) h = (s, e, refl, ap (ended_told (ended_of r)) h)

  pub count_fits : {after : Rows} (r : run.Ran) → Tells plan reads before after (told (Ok r)) → r.accesses ≤ most reads
  count_fits r h =
      let (s, e, rows, same) = made r h refl in
      omega (arith, ap (λ (d : Ended). d.accesses) same, few (pll_plan_of plan) plan.polls reads)

  module _ {from to : Contents} where
    pub run_said : {after : Rows} (r : run.Ran) → Tells plan reads before after (told (Ok r)) →
        Said 4000 (accesses (firsts r.accesses after) ++ ended (end_number (ending r.end))) from to → Said 4000 (run_text plan reads) from to
    unfolding run_text
    run_said {after} r h said =
        let (s, e, rows, same) = made r h refl in
        let list = ap (firsts (length log.accesses)) rows ∙ read_back log.accesses before in
        let said_so = subst (λ (d : Ended). Said 4000 (accesses (firsts d.accesses after) ++ ended (end_number d.end)) from to) (sym same) said in
        rw e (subst (λ (l : List Access). Said 4000 (accesses l ++ ended (end_number log.end)) from to) list said_so)

    pub refusal_said : {after : Rows} (e : SeqError) → Tells plan reads before after (told (Err e)) →
        Said 18 (printed (bytes "refused #") (number_of (refusal_of e) ∷ [])) from to → Said 4000 (run_text plan reads) from to
    unfolding run_text
    refusal_said e h said = by h refl
      where
        by : {after : Rows} {t : Told Ended} → Tells plan reads before after t → t ≡ told (Err e) → Said 4000 (run_text plan reads) from to
        by (not_started start) q = rw (start, ap number_told q, same_number e) (within 18 (lit≤ tt) said)
        by (started start (no_room short)) q = absurd (not_both short room)
        by (started start (recorded g)) q = absurd (no_answer e q)

-- the host's words, as the code cuts them out
pub behind : (n : List ℕ) (r : Option (Bor (List ℕ))) (d : Bor (List ℕ)) → d.now ≡ [] →
    MatchOption r ((length n < 7) ⊎ (length n < length n)) (λ x. (7 ≤ length n) × (length n ≤ length n) × (x.now ≡ slice_range n 7 (length n)) × (length x.now + 7 ≡ length n)) →
    (unwrap_or r d).now ≡ drop 7 n
behind n None d e h = e ∙ sym (drop_of_length-le n {i = 7} (⊎_elim (λ l. omega arith) (λ l. omega arith) h))
behind n (Some x) d e h = h.2 ∙ take_all (length n - 7) (drop 7 n) (omega (arith, length-drop 7 n))

pub first_160 : (n : List ℕ) {words : List ℕ} {m : ℕ} → words ≡ drop 7 n → m ≡ min (length words) 160 → take m words ≡ host_words n
first_160 n {words} e l = rw (l, e, min_comm, take_min) refl

pub few_words : (n : List ℕ) {words : List ℕ} → words ≡ host_words n → length words ≤ 160
few_words n e = omega (arith, ap length e, length-take 160 (drop 7 n))
