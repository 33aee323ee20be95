-- What the check call tells of a crystal and an image, and which table they have.
use Rattle.std.specs.Prelude.{ℕ, zero, suc, ◌<◌, ◌≡◌, List, [], Result, Ok, Err}
use Rattle.refusals.specs.Told.{Told, answered, refused}
use Rattle.refusals.specs.Number.{ZERO_CLOCK}
use Rattle.refusals.specs.declared.Refusal.{Refusal}
use Rattle.refusals.specs.declared.Refusal.TheVariants as refusal_case
use Rattle.clocks.specs.declared.Clocks.{Clocks}
use Rattle.evaluation.specs.Evaluated.{evaluated, told_error}
use Rattle.evaluation.specs.Evaluated as evaluation
use Rattle.evaluation.specs.Formulas.{outputs}
use Rattle.ratio_table.specs.declared.Ratio.{Ratio}
use Rattle.ratio_table.specs.declared.Undivided.{Undivided}
use Rattle.ratio_table.specs.Table.{Ratios, entry, none}
use Rattle.ratios.specs.declared.RatiosError.{RatiosError}
use Rattle.ratios.specs.declared.RatiosError.TheVariants.{Evaluation, ZeroClock}
use Rattle.ratios.specs.PlClocks.{pl_clock}

-- documents 01 and 02's number and values for each case of the answer
abbrev pub told : Result (List (List Ratio)) RatiosError → Told (List (List Ratio))
told (Ok table) = answered table
told (Err (Evaluation error)) = told_error error
told (Err ZeroClock) = refused ZERO_CLOCK []

-- the same refusal, in the words of all calls
abbrev pub refusal_of : RatiosError → Refusal
refusal_of (Evaluation error) = evaluation.refusal_of error
refusal_of ZeroClock = refusal_case.ZeroClock

-- that there are ratios, whatever they are
pub data Fine : Type 0 where
  fine : Fine

-- evaluation's refusals, all of them and in its order; then 14, exactly for a crystal of 0
abbrev pub then_zero_clock : ℕ → Told Clocks → Told Fine
then_zero_clock crystal (refused number carried) = refused number carried
then_zero_clock zero (answered clocks) = refused ZERO_CLOCK []
then_zero_clock (suc n) (answered clocks) = answered fine

unfoldable pub checked : ℕ → List ℕ → Told Fine
checked crystal image = then_zero_clock crystal (evaluated crystal image)

-- PL clock i at a crystal
abbrev pub clock_at : ℕ → List ℕ → ℕ → Undivided
clock_at crystal image = pl_clock (outputs crystal image) image

-- what the check call tells: the refusal, or the table of an image that is not refused
pub data Checks (crystal : ℕ) (image : List ℕ) : Told (List (List Ratio)) → Type 0 where
  ratios : {table : List (List Ratio)} → checked crystal image ≡ answered fine → Ratios (clock_at crystal image) table → Checks crystal image (answered table)
  refusal : {number : ℕ} {carried : List ℕ} → checked crystal image ≡ refused number carried → Checks crystal image (refused number carried)

-- the right table; 0 to 0 everywhere after a refusal
pub data Right (crystal : ℕ) (image : List ℕ) : List (List Ratio) → Type 0 where
  accepted : {table : List (List Ratio)} → checked crystal image ≡ answered fine → Ratios (clock_at crystal image) table → Right crystal image table
  rejected : {number : ℕ} {carried : List ℕ} → checked crystal image ≡ refused number carried → Right crystal image none

-- how the two calls go together, which is the law `tied`
pub data Tied : Told (List (List Ratio)) → List (List Ratio) → Type 0 where
  no_zero : {table : List (List Ratio)} → ((i j : ℕ) → i < 4 → j < 4 → (0 < (entry table i j).num) × (0 < (entry table i j).den)) → Tied (answered table) table
  all_zero : {number : ℕ} {carried : List ℕ} → Tied (refused number carried) none
