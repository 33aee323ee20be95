-- What is to come, by the row that is due and the words that are left. Assumes nothing.
use Prim.Native.Nat.{ℕ, zero, suc, ◌+◌, ◌-◌, ◌≤◌, ◌<◌}
use native.Mathlib.Numerals.{sub-one}
use native.Mathlib.Omega.{arith}
use mathlib.Core.Path.{◌≡◌, refl, sym, ap, ◌∙◌}
use mathlib.Core.Logic.{◌⊎◌, inl, inr}
use mathlib.Core.Bool.{Bool, true, false, cond, ◌&&◌}
use mathlib.Core.List.{List, [], ◌∷◌}
use lib.Dec.{T}
use lib.ListN.{drop}
use lib.Seq.{drop-drop}
use Rattle.tables.proofs.Table.{both}
use Rattle.fields.specs.Word.{set_field}
use Rattle.registers.specs.Fields.{BYPASS_FORCE}
use Rattle.registers.specs.Plls.{pll_ctrl, pll_lock}
use Rattle.registers.specs.Words.{PLL_STATUS}
use Rattle.pll_rows.specs.declared.Due.{Due}
use Rattle.pll_rows.specs.declared.Due.TheVariants.{Read, Write, Poll, End}
use Rattle.pll_rows.specs.declared.PllPlan.{PllPlan}
use Rattle.pll_rows.specs.Due.{IsDue}
use Rattle.pll_rows.specs.Sequence.{Row, read, write, poll, Log, locked, timed_out, a_read, a_write, after, ends, reads, seen, log, sequence}
use Rattle.pll_seq.specs.Moves.{to_come, to_poll, to_close}

-- ---- the first of some rows is due

module _ (n w : ℕ) (words : List ℕ) where
  abbrev by : List Row → Due → Log
  by l (Read i) = reads i (log (drop 1 l) n) words
  by l (Write i v) = after (a_write i v) (log (drop 1 l) n v words)
  by l (Poll i) = log l n w words
  by l End = ends locked

  by_due : (l : List Row) (d : Due) → IsDue l w d → log l n w words ≡ by l d
  by_due [] d e = ap (by []) (sym e)
  by_due (read i ∷ rows) d e = ap (by (read i ∷ rows)) (sym e)
  by_due (write i f ∷ rows) d e = ap (by (write i f ∷ rows)) (sym e)
  by_due (poll i bit ∷ rows) d e = ap (by (poll i bit ∷ rows)) (sym e)

-- a poll or the end is due
abbrev pub Past : Due → Type 0
Past d = ((i : ℕ) × (d ≡ Poll i)) ⊎ (d ≡ End)

no_read : {d : Due} {i : ℕ} → d ≡ Read i → Past d → ⊥
no_read e (inl (j, p)) = cc
no_read e (inr p) = cc

no_write : {d : Due} {i v : ℕ} → d ≡ Write i v → Past d → ⊥
no_write e (inl (j, p)) = cc
no_write e (inr p) = cc

-- the first n rows: there are so many, and none is a poll
abbrev plain_row : Row → Bool
plain_row (read i) = true
plain_row (write i f) = true
plain_row (poll i bit) = false

abbrev plain : ℕ → List Row → Bool
plain zero l = true
plain (suc n) [] = false
plain (suc n) (row ∷ l) = plain_row row && plain n l

plain_at : (n k : ℕ) (l : List Row) (w : ℕ) (d : Due) → T (plain n l) → k < n → IsDue (drop k l) w d → Past d → ⊥
plain_at zero k l w d t h e past = absurd (omega arith)
plain_at (suc n) k [] w d t h e past = absurd t
plain_at (suc n) zero (read i ∷ l) w d t h e past = no_read e past
plain_at (suc n) zero (write i f ∷ l) w d t h e past = no_write e past
plain_at (suc n) zero (poll i bit ∷ l) w d t h e past = absurd t
plain_at (suc n) (suc k) (row ∷ l) w d t h e past = plain_at n k l w d (both (plain_row row) (plain n l) t).1 (omega arith) e past

module _ (plan : PllPlan) where
  -- ---- the rows before the polls

  pub at_the_polls : (at n w : ℕ) (words : List ℕ) → at ≡ 9 → to_come plan at n w words ≡ to_poll plan n words
  unfolding to_come
  at_the_polls at n w words e = ap (λ (at : ℕ). log (drop at (sequence plan)) n w words) e

  module _ (at n w : ℕ) (d : Due) (due : IsDue (drop at (sequence plan)) w d) where
    pub not_past : at < 9 → Past d → ⊥
    not_past h past = plain_at 9 at (sequence plan) w d tt h due past

    due_is : (words : List ℕ) {e : Due} → d ≡ e → log (drop at (sequence plan)) n w words ≡ by n w words (drop at (sequence plan)) e
    due_is words e = by_due n w words (drop at (sequence plan)) d due ∙ ap (by n w words (drop at (sequence plan))) e

    pub does_read : {i : ℕ} → d ≡ Read i → (words : List ℕ) → to_come plan at n w words ≡ reads i (to_come plan (at + 1) n) words
    unfolding to_come
    does_read {i} e words = due_is words e ∙ ap (λ (rows : List Row). reads i (log rows n) words) (drop-drop 1 at (sequence plan))

    pub does_write : {i v : ℕ} → d ≡ Write i v → (words : List ℕ) →
        to_come plan at n w words ≡ after (a_write i v) (to_come plan (at + 1) n v words)
    unfolding to_come
    does_write {i} {v} e words =
        due_is words e ∙ ap (λ (rows : List Row). after (a_write i v) (log rows n v words)) (drop-drop 1 at (sequence plan))

  -- ---- the polls, and the two rows after them

  -- after the polls those that are left are of no account
  closing : (n w : ℕ) (words : List ℕ) → log (drop 10 (sequence plan)) n w words ≡ to_close plan words
  unfolding to_come
  closing n w [] = refl
  closing n w (x ∷ words) = refl

  -- what a poll that shows this word is followed by
  abbrev pub polled : ℕ → ℕ → List ℕ → Log
  polled n x words = cond (seen x (pll_lock plan.pll)) (to_close plan words) (to_poll plan (n - 1) words)

  pub does_poll : (n : ℕ) → 0 < n → (words : List ℕ) → to_poll plan n words ≡ reads PLL_STATUS (polled n) words
  unfolding to_come
  does_poll zero h words = absurd (omega arith)
  does_poll (suc n) h [] = refl
  does_poll (suc n) h (x ∷ words) = rw sub-one (ap (λ (l : Log). after (a_read PLL_STATUS x) (cond (seen x (pll_lock plan.pll)) l (to_poll plan n words))) (closing n x words))

  pub shows_lock : (n x : ℕ) (words : List ℕ) → seen x (pll_lock plan.pll) ≡ true → polled n x words ≡ to_close plan words
  shows_lock n x words e = ap (λ (b : Bool). cond b (to_close plan words) (to_poll plan (n - 1) words)) e

  -- of n polls i are made
  pub shows_none : (n i x : ℕ) (words : List ℕ) → seen x (pll_lock plan.pll) ≡ false → polled (n - i) x words ≡ to_poll plan (n - (i + 1)) words
  shows_none n i x words e =
      ap (λ (b : Bool). cond b (to_close plan words) (to_poll plan (n - i - 1) words)) e ∙ ap (λ (m : ℕ). to_poll plan m words) (omega arith)

  pub all_polls : (n : ℕ) (words : List ℕ) → to_poll plan n words ≡ to_poll plan (n - 0) words
  all_polls n words = ap (λ (m : ℕ). to_poll plan m words) (omega arith)

  pub no_poll_left : (n : ℕ) (words : List ℕ) → n ≤ 0 → to_poll plan n words ≡ ends timed_out
  unfolding to_come
  no_poll_left zero words h = refl
  no_poll_left (suc n) words h = absurd (omega arith)

  -- the bypass is released, by the PLL's control word
  abbrev pub released : ℕ → ℕ → List ℕ → Log
  released ctrl x words = after (a_write ctrl (set_field x BYPASS_FORCE 0)) (ends locked)

  pub does_close : (ctrl : ℕ) → ctrl ≡ pll_ctrl plan.pll → (words : List ℕ) → to_close plan words ≡ reads ctrl (released ctrl) words
  unfolding to_come
  does_close ctrl e [] = refl
  does_close ctrl e (x ∷ words) = rw e refl
