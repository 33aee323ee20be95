-- The first candidate is the best up to itself; what is the best after the last baud divider is the best of all.
use Rattle.std.proofs.Common.{◌≡◌, arith, subst, Some, None}
use Rattle.std.proofs.lemmas.Result.{err_from_is_err_and}
use Rattle.uart_best.specs.Turn.{First}
use Rattle.uart_best.proofs.Laws.{passes, begun, displaced, not_displaced, found_best, no_first}
use Rattle.uart_best.proofs.best_baud_divisors.Goals as goal
use Rattle.uart_best.proofs.best_baud_divisors.Goals.{in-Some+then-tried-best, in-Some+else-tried-best, in_default}

pub loop-bdiv-init : goal.loop-bdiv-init
loop-bdiv-init c =
    let e : c.first.result ≡ Some c.in_ok-best.best = grind arith in
    begun _ _ c.ranges.reference.fits c.ranges.target.fits c.new-wanted.ensures (subst (First _ _) e c.first.ensures)

pub loop-bdiv-preserved : goal.loop-bdiv-preserved
loop-bdiv-preserved c =
    let b = c.loop-bdiv.invariant in
    let r = c.ranges.reference.fits in
    let t = c.ranges.target.fits in
    let a = c.new-wanted.ensures in
    elim c.match-candidate.branch [
      | in-Some+then-tried-best w ↦ rw w.best-is (displaced _ _ r t a w.in-Some.ensures w.if-tried-best.true b)
      | in-Some+else-tried-best w ↦ rw w.best-is (not_displaced _ _ r t a w.in-Some.ensures w.if-tried-best.false b)
      | in_default w ↦ rw w.best-is (passes w.in_default.ensures b)
    ]

pub returns-in_err-best : goal.returns-in_err-best
returns-in_err-best c =
    let e : c.first.result ≡ None = grind arith in
    let p = err_from_is_err_and c.from_residual.result c.from_residual.ensures.1 in
    rw p.1 (no_first _ _ c.new-wanted.ensures (subst (First _ _) e c.first.ensures))

pub returns : goal.returns
returns c = found_best _ _ c.new-wanted.ensures c.loop-bdiv-test.false c.loop-bdiv.invariant
