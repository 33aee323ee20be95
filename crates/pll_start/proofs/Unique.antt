-- A start has one answer: the answer itself, and not only what it tells, is found again from what it tells. Assumes nothing.
use mathlib.Core.Path.{◌≡◌, refl, sym, ap, ◌∙◌}
use Rattle.std.specs.Prelude.{Result, Ok, Err}
use mathlib.Core.Bool.{cond}
use lib.Dec.{eqb}
use Rattle.refusals.specs.Told.{Told, answered, refused}
use Rattle.refusals.specs.Number.{BAD_LIMIT, BAD_FIELD}
use Rattle.pll_step.specs.declared.PllSequence.{PllSequence}
use Rattle.pll_start.specs.declared.StartError.{StartError}
use Rattle.pll_start.specs.declared.StartError.TheVariants.{BadLimit, BadField, Already}
use Rattle.pll_start.specs.declared.Started.{Started}
use Rattle.pll_start.specs.Start.{told, Once, told_once}

answer_of : Told PllSequence → Result PllSequence StartError
answer_of (answered s) = Ok s
answer_of (refused n ns) = Err (cond (eqb n BAD_LIMIT) BadLimit (cond (eqb n BAD_FIELD) BadField Already))

again : (x : Result PllSequence StartError) → answer_of (told x) ≡ x
unfolding answer_of
again (Ok s) = refl
again (Err BadLimit) = refl
again (Err BadField) = refl
again (Err Already) = refl

pub one_answer : (x y : Result PllSequence StartError) → told x ≡ told y → x ≡ y
one_answer x y e = sym (again x) ∙ ap answer_of e ∙ again y

pub one_answer_once : (x y : Started) → told_once x ≡ told_once y → x ≡ y
one_answer_once x y e =
    let start = one_answer x.start y.start (ap (λ (o : Once). o.start) e) in
    let marks = ap (λ (o : Once). o.marks) e in
    λ i. record { start = start i; marks = marks i }
