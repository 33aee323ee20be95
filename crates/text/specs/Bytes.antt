-- A text as the list of its bytes, so that a definition can say "two-stage" and not ten numbers. Of texts in ASCII.
use Rattle.std.specs.Prelude.{ℕ, List, [], ◌∷◌}
use Prim.Native.Char.{code}
use Prim.Native.String.{String, [] as end, ◌∷◌ as ◌then◌}

abbrev pub bytes : String → List ℕ
bytes end = []
bytes (c then rest) = code c ∷ bytes rest
