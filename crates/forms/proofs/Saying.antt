-- How writers in a row come to an answer.
use mathlib.Core.List.{List, [], ◌++◌}
use Prim.Native.Nat.{ℕ, ◌+◌, ◌≤◌}
use native.Mathlib.Omega.{arith}
use lib.ListN.{length, length-append}
use Rattle.std.specs.Prelude.{Result, IsOk}
use Rattle.text.specs.Page.{Contents}
use Rattle.text.specs.Put.{Put}
use Rattle.text.specs.declared.page.Full.{Full}
use Rattle.text.proofs.Writing.{nothing, then}
use Rattle.forms.specs.Says.{Said, Says}

module _ {text : List ℕ} {before after : Contents} where
  -- a bound may be widened
  pub within : (m : ℕ) {n : ℕ} → m ≤ n → Said m text before after → Said n text before after
  within m h s = record { wrote = s.wrote; within = omega (arith, s.within) }

  pub wider : {Ended : Type 0} (m : ℕ) {n : ℕ} → m ≤ n → Ended × Said m text before after → Ended × Said n text before after
  wider m h p = (p.0, within m h p.1)

  -- what a writer of crate text leaves, where its text is short
  pub said : {m : ℕ} (r : Result Unit Full) → length text ≤ m → m ≤ length before.rest → Put text before after r → IsOk r × Said m text before after
  said r h room p = let w = p.fits (omega arith) in (w.0, record { wrote = w.1; within = h })

  pub says : {Right : List ℕ → Type 0} (m : ℕ) → m ≤ 8000 → Said m text before after → Right text → Says Right before after
  says m h s right = record { text = text; right = right; said = within m h s }

pub said_nothing : (page : Contents) {m : ℕ} → Said m [] page page
said_nothing page = record { wrote = nothing page; within = omega arith }

-- two writers in a row
module _ {t : List ℕ} {before middle : Contents} {m : ℕ} (s : Said m t before middle) where
  pub room_after : (n : ℕ) → m + n ≤ length before.rest → n ≤ length middle.rest
  room_after n h = omega (arith, s.within, s.wrote.inside)

  pub both : {u : List ℕ} {n : ℕ} {after : Contents} → Said n u middle after → Said (m + n) (t ++ u) before after
  both {u} r = record { wrote = then s.wrote r.wrote; within = omega (arith, s.within, r.within, length-append t u) }
