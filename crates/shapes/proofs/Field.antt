-- One word that is to be a name.
use mathlib.Core.Path.{◌≡◌, refl, ap, ◌∙◌}
use mathlib.Core.List.{List, [], ◌∷◌}
use Prim.Native.Nat.{ℕ}
use native.Mathlib.Omega.{arith}
use lib.ListN.{length}
use Rattle.std.specs.Prelude.{Option, Some, None, Result, Ok, Err, ok_or}
use Rattle.words.specs.Words.{place_of}
use Rattle.shapes.specs.Field.{known, name}
use Rattle.shapes.specs.declared.fields.Fault.{Fault}

pub no_name : (names : List (List ℕ)) (word : List ℕ) → length word ≡ 0 → Err Fault.Empty ≡ name names word
unfolding name
no_name names [] h = refl
no_name names (c ∷ word) h = absurd (omega arith)

ok_known : (p : Option ℕ) → ok_or p Fault.NoSuchName ≡ known p
ok_known (Some i) = refl
ok_known None = refl

pub some_name : (names : List (List ℕ)) (word : List ℕ) {p : Option ℕ} {r : Result ℕ Fault} → (length word ≡ 0 → ⊥) → r ≡ ok_or p Fault.NoSuchName → p ≡ place_of word names → r ≡ name names word
unfolding name
some_name names [] n e q = absurd (n refl)
some_name names (c ∷ word) {p} n e q = e ∙ ok_known p ∙ ap known q

-- where the `?` went on, there was a place
pub went_on : (p : Option ℕ) {i : ℕ} → ok_or p Fault.NoSuchName ≡ Ok i → p ≡ Some i
went_on (Some j) e = cc
went_on None e = cc
