-- A trace that is fed in parts, cut anywhere. Whoever feeds it goes on from the state that came back, refused or not.
use Rattle.std.specs.Prelude.{List, [], ◌∷◌, ◌++◌}
use Rattle.trace.specs.declared.Fed.{Fed}
use Rattle.trace.specs.declared.Trace.{Trace}
use Rattle.trace.specs.Numbers.{Sample, firsts, seconds}
use Rattle.trace.specs.Parts.{Feeds}

abbrev pub all : List (List Sample) → List Sample
all [] = []
all (part ∷ parts) = part ++ all parts

pub data Replays : Trace → List (List Sample) → Trace → Type 0 where
  start : {s : Trace} → Replays s [] s
  part : {s : Trace} {p : List Sample} {parts : List (List Sample)} {f : Fed} {r : Trace} → Feeds s (firsts p) (seconds p) f → Replays f.trace parts r → Replays s (p ∷ parts) r
