-- The answer to a line, as the table has it.
use Rattle.std.specs.Prelude.{ℕ, ◌≡◌, List, drop, Ok, Err}
use Rattle.text.specs.Bytes.{bytes}
use Rattle.shapes.specs.Shape.{MOST, Parsed, all, bad, parse}
use Rattle.shapes.specs.Named.{named_of}
use Rattle.shapes.specs.declared.fields.Fault.{Fault}
use Rattle.desk_faults.specs.Complaint.{complaint}
use Rattle.desk_requests.specs.Row.{Request}
use Rattle.desk_requests.specs.Table.{row, names}

-- a request's words after its name, read by its shape
abbrev pub read : Request → List (List ℕ) → Parsed
read r rest = parse (bytes r.shape) MOST 2 rest

pub data Asked (r : Request) (rest : List (List ℕ)) : List ℕ → Type 0 where
  told : {text : List ℕ} → (read r rest).end ≡ all → r.says (read r rest).numbers text → Asked r rest text
  at_fault : {k : ℕ} {f : Fault} → (read r rest).end ≡ bad k f → Asked r rest (complaint k f)

-- by the line's first word; `line` is its words
pub data Answer (line : List (List ℕ)) : List ℕ → Type 0 where
  request : {place : ℕ} {text : List ℕ} → named_of names line ≡ Ok place → Asked (row place) (drop 1 line) text → Answer line text
  no_request : {f : Fault} → named_of names line ≡ Err f → Answer line (complaint 1 f)
