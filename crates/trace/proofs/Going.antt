-- Through a part, sample by sample: what stands in the state after i samples. Assumes nothing.
use Rattle.std.proofs.Common.{◌≡◌, ℕ, zero, suc, ◌+◌, ◌-◌, ◌%◌, ◌^◌, ◌<◌, ◌≤◌, Bool, true, false, cond, eqb, List, [], ◌∷◌, length, get_or, take, sym, refl, ap, ◌∙◌, subst, ap₂, suc-le-suc, le_of_suc-le-suc, not-suc-le-zero, arith}
use Rattle.trace.specs.declared.Channel.{Channel}
use Rattle.trace.specs.declared.Trace.{Trace}
use Rattle.trace.specs.Counts.{step, ticks, last_of}
use Rattle.trace.specs.Leads.{Greatest}
use Rattle.trace.specs.Numbers.{channel}
use Rattle.trace.specs.Parts.{prior, Onward}
use Rattle.trace.specs.Sampled.{counted, raised, sampled, with_lasts, begun}
use Rattle.trace.proofs.Counting.{ticks_more}
use Rattle.trace.proofs.Leading.{none_yet, next}

-- a channel's total after i counts that follow its last
abbrev later : Channel → List ℕ → ℕ → ℕ
later c counts i = (c.total + ticks (c.last ∷ take i counts)) % 2 ^ 64

abbrev at : Channel → List ℕ → ℕ → Channel
at c counts i = channel (later c counts i) (get_or (c.last ∷ counts) i 0)

pub record Going (xs ys : List ℕ) (s c : Trace) (i : ℕ) : Type 0 where
  pub bound : i ≤ length xs
  pub samples : c.samples ≡ s.samples + i
  pub first : c.first ≡ at s.first xs i
  pub second : c.second ≡ at s.second ys i
  pub first_leads : Greatest (λ k. later s.first xs (suc k) - later s.second ys (suc k)) s.samples i s.first_leads c.first_leads
  pub second_leads : Greatest (λ k. later s.second ys (suc k) - later s.first xs (suc k)) s.samples i s.second_leads c.second_leads

at_first : (c : Channel) (counts : List ℕ) → c.total < 2 ^ 64 → c ≡ at c counts 0
at_first c counts h = let e : c.total ≡ later c counts 0 = omega arith in λ i. record { total = e i; last = c.last }

pub start : {xs ys : List ℕ} {s : Trace} → s.first.total < 2 ^ 64 → s.second.total < 2 ^ 64 → Going xs ys s s 0
start {xs} {ys} {s} h k =
    record {
      bound = omega arith;
      samples = omega arith;
      first = at_first s.first xs h;
      second = at_first s.second ys k;
      first_leads = none_yet;
      second_leads = none_yet;
    }

wraps_on : (a t u : ℕ) → ((a + t) % 2 ^ 64 + u) % 2 ^ 64 ≡ (a + (t + u)) % 2 ^ 64
wraps_on a t u = omega arith

counted_at : (c : Channel) (counts : List ℕ) (i : ℕ) → i < length counts → counted (at c counts i) (get_or counts i 0) ≡ at c counts (suc i)
counted_at c counts i h =
    ap (λ (n : ℕ). channel n (get_or counts i 0))
    (wraps_on c.total (ticks (c.last ∷ take i counts)) (step (get_or (c.last ∷ counts) i 0) (get_or counts i 0))
    ∙ ap (λ (n : ℕ). (c.total + n) % 2 ^ 64) (sym (ticks_more (c.last ∷ counts) i (suc-le-suc h))))

module _ {xs ys : List ℕ} {s c : Trace} {i : ℕ} (g : Going xs ys s c i) where
  one_more : length xs ≡ length ys → i < length xs → Going xs ys s (sampled c (get_or xs i 0) (get_or ys i 0)) (suc i)
  one_more as_long h =
      let x = get_or xs i 0 in
      let y = get_or ys i 0 in
      let one : counted c.first x ≡ at s.first xs (suc i) = ap (λ (p : Channel). counted p x) g.first ∙ counted_at s.first xs i h in
      let two : counted c.second y ≡ at s.second ys (suc i) = ap (λ (p : Channel). counted p y) g.second ∙ counted_at s.second ys i (omega arith) in
      let behind : Channel → Channel → ℕ = λ p q. p.total - q.total in
      record {
        bound = h;
        samples = omega (arith, g.samples);
        first = one;
        second = two;
        first_leads = subst (Greatest _ _ _ _) (sym (ap₂ (raised c.first_leads) (ap₂ behind one two) g.samples)) (next g.first_leads);
        second_leads = subst (Greatest _ _ _ _) (sym (ap₂ (raised c.second_leads) (ap₂ behind two one) g.samples)) (next g.second_leads);
      }

  pub more : {t : Trace} {x y n : ℕ} → length xs ≡ length ys → i < length xs → x ≡ get_or xs i 0 → y ≡ get_or ys i 0 → t ≡ sampled c x y → n ≡ suc i
      → Going xs ys s t n
  more {t} as_long h x_is y_is t_is n_is =
      subst (Going xs ys s t) (sym n_is)
      (subst (λ (t : Trace). Going xs ys s t (suc i)) (sym (t_is ∙ ap₂ (sampled c) x_is y_is)) (one_more as_long h))

-- ---- the whole part

any_default : (counts : List ℕ) (i a b : ℕ) → i < length counts → get_or counts i a ≡ get_or counts i b
any_default [] i a b h = absurd (not-suc-le-zero h)
any_default (n ∷ counts) zero a b h = refl
any_default (n ∷ counts) (suc i) a b h = any_default counts i a b (le_of_suc-le-suc h)

-- the state with which the loop begins
abbrev ready : Trace → List ℕ → List ℕ → Trace
ready s xs ys = with_lasts s (prior s.samples s.first xs) (prior s.samples s.second ys)

begun_ready : (s : Trace) (xs ys : List ℕ) → 0 < length xs → 0 < length ys → begun s (get_or xs 0 0) (get_or ys 0 0) ≡ ready s xs ys
begun_ready s xs ys h k = either (eqb s.samples 0)
  where
    either : (anew : Bool)
        → cond anew (with_lasts s (get_or xs 0 0) (get_or ys 0 0)) s
        ≡ with_lasts s (cond anew (get_or xs 0 s.first.last) s.first.last) (cond anew (get_or ys 0 s.second.last) s.second.last)
    either true = ap₂ (with_lasts s) (any_default xs 0 0 s.first.last h) (any_default ys 0 0 s.second.last k)
    either false = refl

ends : (p : ℕ) (counts : List ℕ) → get_or (p ∷ counts) (length counts) 0 ≡ last_of p counts
ends p [] = refl
ends p (n ∷ counts) = ends n counts

any_other : (p d : ℕ) (counts : List ℕ) → 0 < length counts → last_of p counts ≡ last_of d counts
any_other p d [] h = absurd (not-suc-le-zero h)
any_other p d (n ∷ counts) h = refl

pub done : {s r c : Trace} {xs ys : List ℕ} {i : ℕ} → length xs ≡ length ys → 0 < length xs → r ≡ begun s (get_or xs 0 0) (get_or ys 0 0)
    → Going xs ys r c i → length xs ≤ i → Onward s xs ys c
done {s} {r} {c} {xs} {ys} {i} as_long some r_is g end =
    let n : i ≡ length xs = omega (arith, g.bound) in
    let from_ready = subst (λ (t : Trace). Going xs ys t c i) (r_is ∙ begun_ready s xs ys some (omega arith)) g in
    let all = subst (Going xs ys (ready s xs ys) c) n from_ready in
    record {
      samples = all.samples;
      first = all.first ∙ ap (channel _) (ends _ xs ∙ any_other _ _ xs some);
      second = all.second ∙ ap (channel _) (ap (λ (k : ℕ). get_or (prior s.samples s.second ys ∷ ys) k 0) as_long ∙ ends _ ys ∙ any_other _ _ ys (omega arith));
      first_leads = all.first_leads;
      second_leads = all.second_leads;
    }

-- an empty part changes nothing
pub stays : {s : Trace} (xs ys : List ℕ) → length xs ≡ length ys → length xs ≡ 0 → s.first.total < 2 ^ 64 → s.second.total < 2 ^ 64 → Onward s xs ys s
stays {s} [] [] as_long none h k =
    record {
      samples = omega arith;
      first = let e : s.first.total ≡ (s.first.total + 0) % 2 ^ 64 = omega arith in ap (λ (n : ℕ). channel n s.first.last) e;
      second = let e : s.second.total ≡ (s.second.total + 0) % 2 ^ 64 = omega arith in ap (λ (n : ℕ). channel n s.second.last) e;
      first_leads = none_yet;
      second_leads = none_yet;
    }
stays [] (y ∷ ys) as_long none h k = absurd (omega arith)
stays (x ∷ xs) ys as_long none h k = absurd (omega arith)
