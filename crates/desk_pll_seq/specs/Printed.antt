-- A run of the sequence in print: `r 0 0001a008; w 0 ..; locked`, each access followed by `; ` and then the end; the numbers are those of
-- the image's words. So a run that the host starves at once is the word `starved` alone.
use Rattle.std.specs.Prelude.{ℕ, zero, suc, List, [], ◌∷◌, ◌++◌, take}
use Rattle.refusals.specs.Number.{LOCK_TIMEOUT}
use Rattle.text.specs.Bytes.{bytes}
use Rattle.forms.specs.Form.{printed}
use Rattle.pll_rows.specs.Sequence.{Access}
use Rattle.pll_seq.specs.Record.{Rows}

-- kind 0 is a read and 1 a write
abbrev pub access_form : ℕ → List ℕ
access_form zero = bytes "r # $; "
access_form (suc kind) = bytes "w # $; "

-- the word's number in decimal, and the value as 8 hex digits
unfoldable pub access : Access → List ℕ
access a = printed (access_form a.kind) (a.number ∷ a.value ∷ [])

abbrev pub accesses : List Access → List ℕ
accesses [] = []
accesses (a ∷ list) = access a ++ accesses list

-- how a run ended, by its number: locked; timed out, which is a refusal; starved
abbrev pub end_form : ℕ → List ℕ
end_form zero = bytes "locked"
end_form (suc zero) = bytes "refused #"
end_form (suc (suc n)) = bytes "starved"

unfoldable pub ended : ℕ → List ℕ
ended end = printed (end_form end) (LOCK_TIMEOUT ∷ [])

-- ---- the same of what the code has: the records of three rows, and the first n of them
abbrev pub listed : List ℕ → List ℕ → List ℕ → List Access
listed (kind ∷ kinds) (number ∷ numbers) (value ∷ values) =
    record { kind = kind; number = number; value = value } ∷ listed kinds numbers values
listed kinds numbers values = []

abbrev pub firsts : ℕ → Rows → List Access
firsts n r = listed (take n r.kinds) (take n r.numbers) (take n r.values)
