-- One word has one right answer, and its EMIO bit has no part in it. Assumes nothing.
use mathlib.Core.Path.{◌≡◌, refl, ap, subst}
use Prim.Native.Nat.{ℕ}
use native.Mathlib.Omega.{arith}
use lib.Dec.{lit≤}
use Rattle.refusals.specs.Told.{Told, answered}
use Rattle.fields.specs.declared.Field.{Field}
use Rattle.fields.specs.Word.{read_field, set_field}
use Rattle.fields.proofs.Laws.{keeps_below, keeps_above}
use Rattle.registers.specs.Fields.{bit, SOURCE, DIVISOR, DIVISOR_1}
use Rattle.sources.specs.declared.PllOutputs.{PllOutputs}
use Rattle.sources.specs.Clock.{frequency, dual}
use Rattle.sources.specs.Source.{io_source}
use Rattle.clocks.specs.declared.module_id.ClockModuleId.{ClockModuleId}
use Rattle.clocks.proofs.Laws.{same_module}
use Rattle.std.proofs.Common.{Result, Ok, Err}
use Rattle.gem.specs.declared.DivisorZero.{DivisorZero}
use Rattle.gem.specs.Gem.{Right, divisor_0, divisor_1, clock, told}

pub same : {out : PllOutputs} {word : ℕ} {id : ClockModuleId} {a b : Told ℕ} → Right out word id a → Right out word id b → a ≡ b
same (divisor_0 z) (divisor_0 y) = refl
same (divisor_0 z) (divisor_1 p y) = refl
same (divisor_0 z) (clock p q) = absurd (omega arith)
same (divisor_1 p z) (divisor_0 y) = refl
same (divisor_1 p z) (divisor_1 q y) = refl
same (divisor_1 p z) (clock r q) = absurd (omega arith)
same (clock p q) (divisor_0 y) = absurd (omega arith)
same (clock p q) (divisor_1 r y) = absurd (omega arith)
same (clock p q) (clock r s) = refl

same_told : (a b : Result ℕ DivisorZero) → told a ≡ told b → a ≡ b
same_told (Ok m) (Ok n) p = cc
same_told (Ok m) (Err i) p = cc
same_told (Err i) (Ok n) p = cc
same_told (Err i) (Err j) p = ap (λ (id : ClockModuleId). Err (record { 0 = id })) (same_module i.0 j.0 cc)

pub unique :
    {out : PllOutputs} {word : ℕ} {id : ClockModuleId} (a b : Result ℕ DivisorZero) →
    Right out word id (told a) → Right out word id (told b) → a ≡ b
unique a b p q = same_told a b (same p q)

abbrev EMIO : Field
EMIO = bit 6

-- whatever the EMIO bit is set to
module _ (word value : ℕ) where
  source_kept : read_field (set_field word EMIO value) SOURCE ≡ read_field word SOURCE
  source_kept = keeps_below word EMIO value SOURCE (lit≤ tt)

  divisor_kept : read_field (set_field word EMIO value) DIVISOR ≡ read_field word DIVISOR
  divisor_kept = keeps_above word EMIO value DIVISOR (lit≤ tt)

  divisor_1_kept : read_field (set_field word EMIO value) DIVISOR_1 ≡ read_field word DIVISOR_1
  divisor_1_kept = keeps_above word EMIO value DIVISOR_1 (lit≤ tt)

  same_clock : (out : PllOutputs) → frequency out (dual (set_field word EMIO value)) ≡ frequency out (dual word)
  unfolding io_source
  same_clock out = rw (source_kept, divisor_kept, divisor_1_kept)

  pub emio_ignored : {out : PllOutputs} {id : ClockModuleId} {a : Told ℕ} → Right out word id a → Right out (set_field word EMIO value) id a
  emio_ignored (divisor_0 z) = divisor_0 (rw divisor_kept z)
  emio_ignored (divisor_1 p z) = divisor_1 (rw divisor_kept p) (rw divisor_1_kept z)
  emio_ignored {out} {id} (clock p q) =
      subst (λ (n : ℕ). Right out (set_field word EMIO value) id (answered n)) (same_clock out)
      (clock (rw divisor_kept p) (rw divisor_1_kept q))
