-- Which request a line names.
use Rattle.std.specs.Prelude.{ℕ, List, [], ◌∷◌, Option, Some, None, Result, Ok, Err}
use Rattle.words.specs.Words.{place_of}
use Rattle.shapes.specs.declared.fields.Fault.{Fault}

abbrev pub placed : Option ℕ → Result ℕ Fault
placed (Some i) = Ok i
placed None = Err Fault.NoSuchName

-- by the line's first word
abbrev pub named_of : List (List ℕ) → List (List ℕ) → Result ℕ Fault
named_of names [] = Err Fault.Missing
named_of names ([] ∷ rest) = Err Fault.Empty
named_of names ((c ∷ word) ∷ rest) = placed (place_of (c ∷ word) names)
