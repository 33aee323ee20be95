-- Feeding a trace in any parts gives the state that feeding it whole gives. Assumes nothing.
use Rattle.std.proofs.Common.{◌≡◌, ℕ, suc, ◌+◌, ◌-◌, ◌≤◌, List, [], ◌∷◌, ◌++◌, length, sym, refl, ap, ◌∙◌, subst, ap₂, append_assoc, append-nil, arith, length-append}
use lib.Seq.{take-append-le, take-length}
use Rattle.trace.specs.declared.Fed.{Fed}
use Rattle.trace.specs.declared.Lead.{Lead}
use Rattle.trace.specs.declared.Trace.{Trace}
use Rattle.trace.specs.Counts.{ticks, last_of}
use Rattle.trace.specs.Cuts.{all, Replays, start, part}
use Rattle.trace.specs.Leads.{lead, Greatest}
use Rattle.trace.specs.Numbers.{Sample, firsts, seconds, channel, of_counts, ahead_at, Numbers, nothing}
use Rattle.trace.specs.Parts.{MOST, after, Onward, fed, Feeds, bad_rows, trace_long, goes_on}
use Rattle.trace.proofs.Joining.{last_join, after_is, reached}
use Rattle.trace.proofs.Leading.{of_same, joined}
use Rattle.trace.proofs.Laws.{same_state, only, of_none, length_firsts, length_seconds}

firsts_join : (t p : List Sample) → firsts (t ++ p) ≡ firsts t ++ firsts p
firsts_join [] p = refl
firsts_join (s ∷ t) p = ap (λ (l : List ℕ). s.first ∷ l) (firsts_join t p)

seconds_join : (t p : List Sample) → seconds (t ++ p) ≡ seconds t ++ seconds p
seconds_join [] p = refl
seconds_join (s ∷ t) p = ap (λ (l : List ℕ). s.second ∷ l) (seconds_join t p)

-- the channel after a part
channel_on : (xs ys : List ℕ) → length (xs ++ ys) ≤ MOST
    → channel (after (length xs) (of_counts xs) ys (length ys)) (last_of (of_counts xs).last ys) ≡ of_counts (xs ++ ys)
channel_on xs ys h =
    ap₂ channel (after_is xs ys (length ys) h (omega arith) ∙ ap (λ (l : List ℕ). ticks (xs ++ l)) (take-length ys)) (last_join 0 xs ys)

-- the greatest lead over two pieces, of n samples and of m
lead_on : (xs xs' ys ys' : List ℕ) (n m : ℕ) {a b : Lead} → (length xs ≡ n) × (length ys ≡ n) → (length xs' ≡ m) × (length ys' ≡ m)
    → (length (xs ++ xs') ≤ MOST) × (length (ys ++ ys') ≤ MOST) → Greatest (ahead_at xs ys) 0 n (lead 0 0) a
    → Greatest (λ j. after n (of_counts xs) xs' (suc j) - after n (of_counts ys) ys' (suc j)) n m a b
    → Greatest (ahead_at (xs ++ xs') (ys ++ ys')) 0 (n + m) (lead 0 0) b
lead_on xs xs' ys ys' n m long longer within early late =
    let behind : List ℕ → List ℕ → ℕ = λ p q. ticks p - ticks q in
    joined (ahead_at (xs ++ xs') (ys ++ ys'))
    (of_same (λ i i_in. ap₂ behind (sym (take-append-le (suc i) xs xs' (omega arith))) (sym (take-append-le (suc i) ys ys' (omega arith)))) early)
    (of_same (λ j j_in. ap₂ (λ (p q : ℕ). p - q) (reached xs xs' j long.0 within.0 (omega arith)) (reached ys ys' j long.1 within.1 (omega arith))) late)

-- a state of a trace, by the trace's counts
abbrev by_counts : List Sample → Lead → Lead → Trace
by_counts t l r = record { samples = length t; first = of_counts (firsts t); second = of_counts (seconds t); first_leads = l; second_leads = r }

module _ (t p : List Sample) (h : length (t ++ p) ≤ MOST) where
  one : length (firsts t ++ firsts p) ≤ MOST
  one = omega (arith, length-append t p, length-append (firsts t) (firsts p), length_firsts t, length_firsts p)

  two : length (seconds t ++ seconds p) ≤ MOST
  two = omega (arith, length-append t p, length-append (seconds t) (seconds p), length_seconds t, length_seconds p)

  level : length (seconds p) ≡ length (firsts p)
  level = length_seconds p ∙ sym (length_firsts p)

  count : length t + length (firsts p) ≡ length (t ++ p)
  count = ap (λ (b : ℕ). length t + b) (length_firsts p) ∙ sym (length-append t p)

  -- a lead over both pieces, in the columns of the whole
  over_all : {ones others ones' others' : List ℕ} {l : Lead} → ones ≡ ones' → others ≡ others'
      → Greatest (ahead_at ones others) 0 (length t + length (firsts p)) (lead 0 0) l → Greatest (ahead_at ones' others') 0 (length (t ++ p)) (lead 0 0) l
  over_all {ones' = ones'} {others' = others'} {l = l} e e' g =
      subst (λ (n : ℕ). Greatest (ahead_at ones' others') 0 n (lead 0 0) l) count (of_same (λ k i. ap₂ (λ (a b : List ℕ). ahead_at a b k) e e') g)

  pub grows : {s r : Trace} → Numbers t s → Onward s (firsts p) (seconds p) r → Numbers (t ++ p) r
  grows {s} {r} now on =
      let s_is : s ≡ by_counts t s.first_leads s.second_leads = same_state now.samples now.first now.second refl refl in
      let on' = subst (λ (s : Trace). Onward s (firsts p) (seconds p) r) s_is on in
      record {
        samples = on'.samples ∙ count;
        first =
            on'.first
            ∙ ap (λ (n : ℕ). channel (after n (of_counts (firsts t)) (firsts p) (length (firsts p))) (last_of (last_of 0 (firsts t)) (firsts p))) (sym (length_firsts t))
            ∙ channel_on (firsts t) (firsts p) one
            ∙ ap of_counts (sym (firsts_join t p));
        second =
            on'.second
            ∙ ap₂ (λ (n m : ℕ). channel (after n (of_counts (seconds t)) (seconds p) m) (last_of (last_of 0 (seconds t)) (seconds p))) (sym (length_seconds t)) (sym level)
            ∙ channel_on (seconds t) (seconds p) two
            ∙ ap of_counts (sym (seconds_join t p));
        first_leads =
            over_all (sym (firsts_join t p)) (sym (seconds_join t p))
            (lead_on (firsts t) (firsts p) (seconds t) (seconds p) (length t) (length (firsts p)) (length_firsts t, length_seconds t) (refl, level) (one, two) now.first_leads on'.first_leads);
        second_leads =
            over_all (sym (seconds_join t p)) (sym (firsts_join t p))
            (lead_on (seconds t) (seconds p) (firsts t) (firsts p) (length t) (length (firsts p)) (length_seconds t, length_firsts t) (level, refl) (two, one) now.second_leads on'.second_leads);
      }

-- a part that stays within the limit is not refused
pub grown : (t p : List Sample) {s : Trace} {f : Fed} → length (t ++ p) ≤ MOST → Numbers t s → Feeds s (firsts p) (seconds p) f
    → (f.refusal ≡ 0) × Numbers (t ++ p) f.trace
grown t p h now (bad_rows e) = absurd (e (length_firsts p ∙ sym (length_seconds p)))
grown t p h now (trace_long e k) = absurd (omega (arith, now.samples, length-append t p, length_firsts p))
grown t p h now (goes_on e k on) = (refl, grows t p h now on)

-- whatever the parts, the state has the numbers of all of them
pub replayed : (t : List Sample) (parts : List (List Sample)) {s r : Trace} → length (t ++ all parts) ≤ MOST → Numbers t s → Replays s parts r
    → Numbers (t ++ all parts) r
replayed t [] {r = r} h now start = subst (λ (l : List Sample). Numbers l r) (sym (append-nil t)) now
replayed t (p ∷ parts) {r = r} h now (part f rest) =
    let split = append_assoc t p (all parts) in
    let h' : length (t ++ p ++ all parts) ≤ MOST = subst (λ (l : List Sample). length l ≤ MOST) (sym split) h in
    let within : length (t ++ p) ≤ MOST = omega (arith, length-append (t ++ p) (all parts)) in
    subst (λ (l : List Sample). Numbers l r) split (replayed (t ++ p) parts h' (grown t p within now f).1 rest)

-- Feeding a trace in any parts gives the state that feeding it whole gives, and nothing is refused.
pub cut : (parts : List (List Sample)) {r : Trace} {whole : Fed} → length (all parts) ≤ MOST → Replays nothing parts r
    → Feeds nothing (firsts (all parts)) (seconds (all parts)) whole → whole ≡ fed 0 r
cut parts {r} {whole} h replays feeds =
    let once = grown [] (all parts) h of_none feeds in
    ap₂ fed once.0 (only once.1 (replayed [] parts h of_none replays))
