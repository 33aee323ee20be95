-- What is printed: six lines on standard output, or one line on standard error.
use Rattle.std.specs.Prelude.{ℕ, ◌-◌, cond, List, [], ◌∷◌, ◌++◌, ltb}
use Rattle.text.specs.Bytes.{bytes}
use Rattle.text.specs.Digits.{decimal}
use Rattle.trace.specs.declared.Lead.{Lead}
use Rattle.trace.specs.declared.Trace.{Trace}
use Rattle.replay.specs.declared.report.Fault.{Fault}

-- a number behind its name
abbrev pub line : List ℕ → ℕ → List ℕ
line name n = name ++ decimal n ++ (10 ∷ [])

abbrev pub lead_line : List ℕ → Lead → List ℕ
lead_line name lead = name ++ decimal lead.ticks ++ line (bytes " at ") lead.at

-- the first total less the second, exact whatever they are
abbrev pub difference_line : ℕ → ℕ → List ℕ
difference_line first second =
    cond (ltb first second) (line (bytes "difference -") (second - first)) (line (bytes "difference ") (first - second))

unfoldable pub report_of : Trace → List ℕ
report_of s =
    line (bytes "samples ") s.samples
    ++ line (bytes "first ") s.first.total
    ++ line (bytes "second ") s.second.total
    ++ difference_line s.first.total s.second.total
    ++ lead_line (bytes "first leads ") s.first_leads
    ++ lead_line (bytes "second leads ") s.second_leads

-- no report is longer
abbrev pub REPORT : ℕ
REPORT = 320

-- why there is no report; the numbers are of bytes
unfoldable pub fault_of : Fault → List ℕ
fault_of Fault.TooLong = bytes "replay: refused 19: more than 16777216 samples\n"
fault_of (Fault.Unfinished n) = line (bytes "replay: the trace ends inside a sample, at byte ") n
fault_of (Fault.Unreadable n) = line (bytes "replay: the trace cannot be read, after byte ") n

abbrev pub FAULT : ℕ
FAULT = 80
