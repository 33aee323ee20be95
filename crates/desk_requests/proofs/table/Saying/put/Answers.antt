-- `Saying::put` says what a row says of the numbers of a line. Assumes nothing.
use mathlib.Core.Path.{refl}
use native.Mathlib.Omega.{arith}
use lib.Dec.{lit≤}
use Rattle.forms.proofs.Saying.{said, says}
use Rattle.desk_requests.specs.Table.{help_text}
use Rattle.desk_requests.proofs.Speaking.{spoken}
use Rattle.desk_requests.proofs.table.Saying.put.Goals as goal

pub returns-in-Help : goal.returns-in-Help
unfolding help_text
returns-in-Help c =
    let s = said c.put_bytes.result (lit≤ tt) (omega arith) c.put_bytes.ensures in
    rw c.in-Help.is (s.0, says 1500 (lit≤ tt) s.1 refl)

pub returns-in-Told : goal.returns-in-Told
returns-in-Told c =
    let short = rw c.in-Told.is at c.requires.0 in
    let s = c.put_told.ensures.fits (omega arith) in
    rw c.in-Told.is (s.0, says _ short s.1 (spoken _ c.make-told.result (c.make-told.ensures.fits (omega arith))))
