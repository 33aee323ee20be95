-- How long the lines are at most, and how writers in a row come to them.
use mathlib.Core.Path.{◌≡◌}
use mathlib.Core.List.{List, [], ◌∷◌, ◌++◌}
use Prim.Native.Nat.{ℕ, zero, suc, ◌+◌, ◌-◌, ◌/◌, ◌≤◌, ◌<◌}
use native.Mathlib.Omega.{arith}
use native.Mathlib.Nat.{le_refl}
use native.Mathlib.Decide.{dec_lt}
use borrow.Author.Tests.{lt-ltb, le-ltb}
use lib.Dec.{lit≤}
use lib.ListN.{length, length-append}
use Rattle.std.specs.Prelude.{Result, IsOk}
use Rattle.text.specs.Bytes.{bytes}
use Rattle.text.specs.Digits.{decimal_up_to, decimal}
use Rattle.text.specs.Page.{Contents}
use Rattle.text.specs.Put.{Put}
use Rattle.text.specs.declared.page.Full.{Full}
use Rattle.forms.specs.Says.{Said}
use Rattle.forms.proofs.Saying.{within, said, both, room_after}
use Rattle.trace.specs.declared.Lead.{Lead}
use Rattle.trace.specs.declared.Trace.{Trace}
use Rattle.replay.specs.Report.{line, lead_line, difference_line, report_of, REPORT, fault_of, FAULT}
use Rattle.replay.specs.declared.report.Fault.{Fault}

-- a number of 64 bits has at most twenty digits
up_to : (k n : ℕ) → length (decimal_up_to k n) ≤ suc k
up_to zero n = omega arith
up_to (suc k) n =
    elim (dec_lt n 10) [
      | yes l ↦ rw (lt-ltb n 10 l) (omega arith)
      | no l ↦ rw (le-ltb n 10 (omega arith)) (omega (arith, length-append {A = ℕ}, up_to k (n / 10)))
    ]

pub twenty : (n : ℕ) → length (decimal n) ≤ 20
unfolding decimal
twenty n = up_to 19 n

-- a name and a number behind it
module _ (n : ℕ) {name : List ℕ} {before middle end : Contents} (q r : Result Unit Full) (room : length name + 20 ≤ length before.rest)
    (p : Put name before middle q) (d : Put (decimal n) middle end r) where
  numbered : Said (length name + 20) (name ++ decimal n) before end
  numbered =
      let s = (said q (le_refl (length name)) (omega arith) p).1 in
      both s (said r (twenty n) (room_after s 20 room) d).1

  pub lined : {after : Contents} (o : Result Unit Full) → length name + 21 ≤ length before.rest → Put (10 ∷ []) end after o
      → IsOk o × Said (length name + 21) (line name n) before after
  lined o h e =
      let t = said o (lit≤ tt) (room_after numbered 1 (omega arith)) e in
      (t.0, within (length name + 20 + 1) (omega arith) (both numbered t.1))

  pub room_for_at : length name + 45 ≤ length before.rest → 25 ≤ length end.rest
  room_for_at h = room_after numbered 25 (omega arith)

pub led : (lead : Lead) {name : List ℕ} {before middle end after : Contents} (q r o : Result Unit Full) → length name + 45 ≤ length before.rest
    → Put name before middle q → Put (decimal lead.ticks) middle end r → IsOk o × Said 25 (line (bytes " at ") lead.at) end after
    → IsOk o × Said (length name + 45) (lead_line name lead) before after
led lead {name} q r o h p d t = (t.0, within (length name + 20 + 25) (omega arith) (both (numbered lead.ticks q r (omega arith) p d) t.1))

-- the difference, by which of the two is larger
pub behind : (m n : ℕ) {Ended : Type 0} {before after : Contents} → m < n → Ended × Said 33 (line (bytes "difference -") (n - m)) before after
    → Ended × Said 33 (difference_line m n) before after
behind m n h p = rw (lt-ltb m n h) p

pub not_behind : (m n : ℕ) {Ended : Type 0} {before after : Contents} → n ≤ m → Ended × Said 32 (line (bytes "difference ") (m - n)) before after
    → Ended × Said 33 (difference_line m n) before after
not_behind m n h p = rw (le-ltb m n h) (p.0, within 32 (lit≤ tt) p.1)

-- the six lines
pub reported : (s : Trace) {b₀ b₁ b₂ b₃ b₄ b₅ b₆ : Contents} →
    Said 29 (line (bytes "samples ") s.samples) b₀ b₁ →
    Said 27 (line (bytes "first ") s.first.total) b₁ b₂ →
    Said 28 (line (bytes "second ") s.second.total) b₂ b₃ →
    Said 33 (difference_line s.first.total s.second.total) b₃ b₄ →
    Said 57 (lead_line (bytes "first leads ") s.first_leads) b₄ b₅ →
    Said 58 (lead_line (bytes "second leads ") s.second_leads) b₅ b₆ →
    Said REPORT (report_of s) b₀ b₆
unfolding report_of
reported s p q r t u v = within 232 (lit≤ tt) (both (both (both (both (both p q) r) t) u) v)

-- the one line, by what it is for
module _ {fault : Fault} {before after : Contents} (o : Result Unit Full) where
  pub too_long : fault ≡ Fault.TooLong → FAULT ≤ length before.rest → Put (bytes "replay: refused 19: more than 16777216 samples\n") before after o
      → IsOk o × Said FAULT (fault_of fault) before after
  unfolding fault_of
  too_long e h p = rw e (said o (lit≤ tt) h p)

  pub unfinished : (n : ℕ) → fault ≡ Fault.Unfinished n → IsOk o × Said 69 (line (bytes "replay: the trace ends inside a sample, at byte ") n) before after
      → IsOk o × Said FAULT (fault_of fault) before after
  unfolding fault_of
  unfinished n e t = (t.0, rw e (within 69 (lit≤ tt) t.1))

  pub unreadable : (n : ℕ) → fault ≡ Fault.Unreadable n → IsOk o × Said 66 (line (bytes "replay: the trace cannot be read, after byte ") n) before after
      → IsOk o × Said FAULT (fault_of fault) before after
  unfolding fault_of
  unreadable n e t = (t.0, rw e (within 66 (lit≤ tt) t.1))
