-- A row of clocks and a word have one result, and one thing is handed back. Assumes nothing.
use Prim.Native.Nat.{ℕ}
use mathlib.Core.Path.{◌≡◌}
use mathlib.Core.Bool.{Bool}
use mathlib.Core.List.{List}
use Rattle.bounds.proofs.Bound.{both}
use Rattle.gem.proofs.Laws.{same}
use Rattle.handing.proofs.Unique.{Single, single, settled, alike}
use Rattle.c_gem.specs.Tells.{GemTells, GemHanded}

pub one : (second : Bool) (word : ℕ) (row : List ℕ) → Single (GemTells second word row)
one second word row = single (λ t u. same)

pub gem : (second : Bool) (word : ℕ) (row before : List ℕ) {r q : ℕ} {a b : List ℕ} → GemHanded second word row before r a → GemHanded second word row before q b → (r ≡ q) × (a ≡ b)
gem second word row before {r} {q} {a} {b} = both (settled (one second word row) before r q a b) alike
