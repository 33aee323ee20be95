-- A run has one answer and leaves one set of rows. Assumes nothing.
use Prim.Native.Nat.{ℕ}
use mathlib.Core.Path.{◌≡◌, refl, sym, ap, ◌∙◌}
use mathlib.Core.Logic.{⊎_elim}
use mathlib.Core.List.{List, [], ◌∷◌}
use native.Mathlib.Omega.{arith}
use Rattle.std.specs.Prelude.{Result, Ok, Err}
use Rattle.refusals.specs.Told.{Told, answered, refused}
use Rattle.pll_rows.specs.declared.PllPlan.{PllPlan}
use Rattle.pll_rows.specs.Sequence.{Ending, locked, timed_out, starved}
use Rattle.pll_seq.specs.declared.End.{End}
use Rattle.pll_seq.specs.declared.End.TheVariants.{Locked, TimedOut, Starved}
use Rattle.pll_seq.specs.declared.NoRoom.{NoRoom}
use Rattle.pll_seq.specs.declared.Ran.{Ran}
use Rattle.pll_seq.specs.Record.{Rows, Room, Short, Ended, ending, told, Recorded, no_room, recorded}

not_both : {n : ℕ} {r : Rows} → Short n r → Room n r → ⊥
not_both short room = ⊎_elim (λ h. omega arith) (⊎_elim (λ h. omega arith) (λ h. omega arith)) short

pub unique : {plan : PllPlan} {limit : ℕ} {words : List ℕ} {before a b : Rows} {t u : Told Ended} →
    Recorded plan limit words before a t → Recorded plan limit words before b u → (a ≡ b) × (t ≡ u)
unique (no_room h) (no_room g) = (refl, refl)
unique (no_room h) (recorded g) = absurd (not_both h g)
unique (recorded h) (no_room g) = absurd (not_both g h)
unique (recorded h) (recorded g) = (refl, refl)

-- the answer itself is found again from what it tells
end_of : Ending → End
end_of locked = Locked
end_of timed_out = TimedOut
end_of starved = Starved

answer_of : Told Ended → Result Ran NoRoom
answer_of (answered e) = Ok (record { accesses = e.accesses; end = end_of e.end })
answer_of (refused n []) = Err (record { needed = n })
answer_of (refused n (m ∷ ns)) = Err (record { needed = m })

again_end : (e : End) → end_of (ending e) ≡ e
unfolding end_of
again_end Locked = refl
again_end TimedOut = refl
again_end Starved = refl

again : (x : Result Ran NoRoom) → answer_of (told x) ≡ x
unfolding answer_of
again (Ok r) = ap (λ (e : End). Ok (record { accesses = r.accesses; end = e })) (again_end r.end)
again (Err e) = refl

pub one_answer : (x y : Result Ran NoRoom) → told x ≡ told y → x ≡ y
one_answer x y e = sym (again x) ∙ ap answer_of e ∙ again y
