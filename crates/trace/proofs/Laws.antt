-- A part has one outcome, a list of samples has one state, and up to the limit nothing wraps. Assumes nothing.
use Rattle.std.proofs.Common.{◌≡◌, ℕ, suc, ◌^◌, ◌<◌, ◌≤◌, List, [], ◌∷◌, length, sym, refl, ap, ◌∙◌, subst, arith}
use lib.IntN.{sub_ℕ}
use Rattle.trace.specs.declared.Channel.{Channel}
use Rattle.trace.specs.declared.Fed.{Fed}
use Rattle.std.specs.Prelude.{Result, Ok, Err}
use Rattle.trace.specs.declared.Trace.{Trace}
use Rattle.trace.specs.declared.TraceError.{TraceError}
use Rattle.trace.specs.declared.TraceError.TheVariants.{BadRows, TraceLong}
use Rattle.trace.specs.Difference.{difference}
use Rattle.trace.specs.Numbers.{Sample, firsts, seconds, ahead_at, Numbers, nothing}
use Rattle.trace.specs.Parts.{MOST, Onward, fed, fed_of, Feeds, bad_rows, trace_long, goes_on}
use Rattle.trace.proofs.Going.{stays}
use Rattle.trace.proofs.Joining.{fits}
use Rattle.trace.proofs.Leading.{none_yet, same_lead}
use Rattle.trace.proofs.Signed.{uncapped_difference}

pub same_state : {a b : Trace} → a.samples ≡ b.samples → a.first ≡ b.first → a.second ≡ b.second → a.first_leads ≡ b.first_leads
    → a.second_leads ≡ b.second_leads → a ≡ b
same_state n f s fl sl = λ i. record { samples = n i; first = f i; second = s i; first_leads = fl i; second_leads = sl i }

one_onward : {s a b : Trace} {xs ys : List ℕ} → Onward s xs ys a → Onward s xs ys b → a ≡ b
one_onward p q =
    same_state (p.samples ∙ sym q.samples) (p.first ∙ sym q.first) (p.second ∙ sym q.second) (same_lead p.first_leads q.first_leads)
    (same_lead p.second_leads q.second_leads)

pub unique : {s : Trace} {xs ys : List ℕ} {a b : Fed} → Feeds s xs ys a → Feeds s xs ys b → a ≡ b
unique (bad_rows h) (bad_rows k) = refl
unique (bad_rows h) (trace_long e k) = absurd (h e)
unique (bad_rows h) (goes_on e k p) = absurd (h e)
unique (trace_long e k) (bad_rows h) = absurd (h e)
unique (trace_long e h) (trace_long e' k) = refl
unique (trace_long e h) (goes_on e' k p) = absurd (omega arith)
unique (goes_on e k p) (bad_rows h) = absurd (h e)
unique (goes_on e k p) (trace_long e' h) = absurd (omega arith)
unique (goes_on e h p) (goes_on e' k q) = ap (fed 0) (one_onward p q)

-- so a call has one result
pub one_result : {s : Trace} {xs ys : List ℕ} {a b : Result Trace TraceError} → Feeds s xs ys (fed_of s a) → Feeds s xs ys (fed_of s b) → a ≡ b
one_result {s} {a = a} {b} p q = of_fed a b (unique p q)
  where
    of_fed : (a b : Result Trace TraceError) → fed_of s a ≡ fed_of s b → a ≡ b
    of_fed (Ok r) (Ok t) e = ap Ok (ap (λ (f : Fed). f.trace) e)
    of_fed (Ok r) (Err BadRows) e = absurd (omega (arith, ap (λ (f : Fed). f.refusal) e))
    of_fed (Ok r) (Err TraceLong) e = absurd (omega (arith, ap (λ (f : Fed). f.refusal) e))
    of_fed (Err BadRows) (Ok t) e = absurd (omega (arith, ap (λ (f : Fed). f.refusal) e))
    of_fed (Err BadRows) (Err BadRows) e = refl
    of_fed (Err BadRows) (Err TraceLong) e = absurd (omega (arith, ap (λ (f : Fed). f.refusal) e))
    of_fed (Err TraceLong) (Ok t) e = absurd (omega (arith, ap (λ (f : Fed). f.refusal) e))
    of_fed (Err TraceLong) (Err BadRows) e = absurd (omega (arith, ap (λ (f : Fed). f.refusal) e))
    of_fed (Err TraceLong) (Err TraceLong) e = refl

-- a list of samples has one state
pub only : {trace : List Sample} {a b : Trace} → Numbers trace a → Numbers trace b → a ≡ b
only p q =
    same_state (p.samples ∙ sym q.samples) (p.first ∙ sym q.first) (p.second ∙ sym q.second) (same_lead p.first_leads q.first_leads)
    (same_lead p.second_leads q.second_leads)

pub of_none : Numbers [] nothing
of_none = record { samples = refl; first = refl; second = refl; first_leads = none_yet; second_leads = none_yet }

-- at the first sample nobody leads
pub level_at_first : (xs ys : List ℕ) → ahead_at xs ys 0 ≡ 0
level_at_first [] [] = refl
level_at_first [] (y ∷ ys) = refl
level_at_first (x ∷ xs) [] = refl
level_at_first (x ∷ xs) (y ∷ ys) = refl

-- an empty part changes nothing, at the limit too
pub empty : {s : Trace} {f : Fed} → s.samples ≤ MOST → s.first.total < 2 ^ 64 → s.second.total < 2 ^ 64 → Feeds s [] [] f → f ≡ fed 0 s
empty h a b feeds = unique feeds (goes_on refl (omega arith) (stays [] [] refl refl a b))

-- ---- the columns of a trace

pub length_firsts : (t : List Sample) → length (firsts t) ≡ length t
length_firsts [] = refl
length_firsts (s ∷ t) = ap suc (length_firsts t)

pub length_seconds : (t : List Sample) → length (seconds t) ≡ length t
length_seconds [] = refl
length_seconds (s ∷ t) = ap suc (length_seconds t)

abbrev pub pairs : List ℕ → List ℕ → List Sample
pairs [] ys = []
pairs (x ∷ xs) [] = []
pairs (x ∷ xs) (y ∷ ys) = record { first = x; second = y } ∷ pairs xs ys

-- any two rows of one length are the columns of a list of samples
pub columns : (xs ys : List ℕ) → length xs ≡ length ys → (firsts (pairs xs ys) ≡ xs) × (seconds (pairs xs ys) ≡ ys)
columns [] [] e = (refl, refl)
columns [] (y ∷ ys) e = absurd (omega arith)
columns (x ∷ xs) [] e = absurd (omega arith)
columns (x ∷ xs) (y ∷ ys) e =
    let rest = columns xs ys (omega arith) in
    (ap (λ (l : List ℕ). x ∷ l) rest.0, ap (λ (l : List ℕ). y ∷ l) rest.1)

-- ---- up to the limit no number wraps

pub below : (t : List Sample) {s : Trace} → length t ≤ MOST → Numbers t s → (s.first.total < 1_099_511_627_776) × (s.second.total < 1_099_511_627_776)
below t h now = (
  subst (λ (c : Channel). c.total < 1_099_511_627_776) (sym now.first) (fits (firsts t) (omega (arith, length_firsts t))),
  subst (λ (c : Channel). c.total < 1_099_511_627_776) (sym now.second) (fits (seconds t) (omega (arith, length_seconds t))),
)

-- so that the difference is that of the totals
pub exact : (t : List Sample) {s : Trace} → length t ≤ MOST → Numbers t s → difference s.first.total s.second.total ≡ sub_ℕ s.first.total s.second.total
exact t {s} h now = uncapped_difference s.first.total s.second.total (omega (arith, (below t h now).0)) (omega (arith, (below t h now).1))
