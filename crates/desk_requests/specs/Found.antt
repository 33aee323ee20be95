-- What the code's rows stand for: the row that a name finds is the table's row at that name's place.
use Rattle.std.specs.Prelude.{ℕ, ◌≤◌, ◌≡◌, List, ◌∷◌, Result, Ok, Err}
use Rattle.text.specs.Bytes.{bytes}
use Rattle.forms.specs.Told.{told_most}
use Rattle.shapes.specs.Named.{named_of}
use Rattle.shapes.specs.declared.BadWord.{BadWord}
use Rattle.desk_calls.specs.Calls.{nth, tells}
use Rattle.desk_faults.specs.Complaint.{complaint}
use Rattle.desk_uart_list.specs.List.{Listed}
use Rattle.desk_pll_seq.specs.Request.{plan_of, host_words, run_text}
use Rattle.desk_requests.specs.Row.{Spoken}
use Rattle.desk_requests.specs.Table.{row, names, help_text}
use Rattle.desk_requests.specs.Answer.{Answer}
use Rattle.desk_requests.specs.declared.table.Row.{Row}
use Rattle.desk_requests.specs.declared.table.Saying.{Saying}
use Rattle.desk_requests.specs.declared.table.Saying.TheVariants.{UartList, PllSeq, Help, Told}

-- what is said of the numbers of a line
abbrev pub says_of : Saying → List ℕ → List ℕ → Type 0
says_of UartList n = Listed (nth n 0) (nth n 1)
says_of PllSeq n = λ text. text ≡ run_text (plan_of n) (host_words n)
says_of Help n = λ text. text ≡ help_text
says_of (Told call form) n = Spoken form.now (tells call n)

-- what a form prints at most, which no answer is longer than
abbrev pub most_of : Saying → ℕ
most_of UartList = 0
most_of PllSeq = 0
most_of Help = 0
most_of (Told call form) = told_most form.now

abbrev pub Short : Saying → Type 0
Short says = most_of says ≤ 8000

pub record Found (name : List ℕ) (found : Row) : Type 0 where
  pub place : ℕ
  pub named : (rest : List (List ℕ)) → named_of names (name ∷ rest) ≡ Ok place
  pub shape_is : found.shape.now ≡ bytes (row place).shape
  pub says_is : (n text : List ℕ) → says_of found.says n text → (row place).says n text
  pub short : Short found.says

-- a first word that names no row, with what is wrong with it
abbrev pub Unknown : List ℕ → BadWord → Type 0
Unknown name bad = (bad.word ≡ 1) × ((rest : List (List ℕ)) → named_of names (name ∷ rest) ≡ Err bad.fault)

-- `line` is the words of a line: whatever is said so of the numbers is an answer to it, and so is what is wrong with a word
abbrev pub Understood : List (List ℕ) → List ℕ → Result Saying BadWord → Type 0
Understood line numbers (Ok says) = Short says × ((text : List ℕ) → says_of says numbers text → Answer line text)
Understood line numbers (Err bad) = Answer line (complaint bad.word bad.fault)
