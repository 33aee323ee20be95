-- `parts::record_closing` meets its contract: a read and a write. Assumes nothing.
use mathlib.Core.Path.{ap, refl, sym}
use Prim.Native.Nat.{ℕ}
use Rattle.std.proofs.lemmas.Result.{err_from_is_err_and}
use Rattle.pll_rows.specs.declared.PllRegisters.{PllRegisters}
use Rattle.pll_rows.specs.Sequence.{a_write, after, ends, locked}
use Rattle.pll_seq.proofs.Moved.{begins, for_next}
use Rattle.pll_seq.proofs.ToCome.{does_close}
use Rattle.pll_seq.proofs.Turning.{may_read, has_read, has_starved, has_put}
use Rattle.pll_seq.proofs.parts.record_closing.Goals as goal

pub read-requires : goal.read-requires
read-requires c =
    let ctrl = ap (λ (r : PllRegisters). r.ctrl) c.from-ctrl.ensures in
    may_read c.args.recorder.now (does_close c.args.plan _ ctrl) (begins c.requires)

pub returns-in_err-word-clause-goes : goal.returns-in_err-word-clause-goes
returns-in_err-word-clause-goes c =
    let ctrl = ap (λ (r : PllRegisters). r.ctrl) c.from-ctrl.ensures in
    let p = err_from_is_err_and c.from_residual.result c.from_residual.ensures.1 in
    rw (p.1, p.2) (has_starved c.args.recorder.now c.read.new.self (does_close c.args.plan _ ctrl) (begins c.requires) c.in_err-word.ensures.reads)

pub put-requires : goal.put-requires
put-requires c =
    let ctrl = ap (λ (r : PllRegisters). r.ctrl) c.from-ctrl.ensures in
    for_next (has_read c.args.recorder.now c.read.new.self (does_close c.args.plan _ ctrl) (begins c.requires) c.in_ok-word.ensures.reads) refl

pub returns-clause-goes : goal.returns-clause-goes
returns-clause-goes c =
    let ctrl = ap (λ (r : PllRegisters). r.ctrl) c.from-ctrl.ensures in
    let read = has_read c.args.recorder.now c.read.new.self (does_close c.args.plan _ ctrl) (begins c.requires) c.in_ok-word.ensures.reads in
    let written = ap (λ (v : ℕ). after (a_write c.from-ctrl.result.ctrl v) (ends locked)) (sym c.set_field.ensures) in
    (has_put c.read.new.self c.put.new.self read written c.put.ensures.puts).moves
