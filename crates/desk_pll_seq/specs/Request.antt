-- `pll-seq`: what the numbers of its line are, and what is printed of them.
use Rattle.std.specs.Prelude.{ℕ, ◌%◌, not, List, [], ◌∷◌, ◌++◌, eqb, get_or, take, drop}
use Rattle.refusals.specs.Told.{Told, answered, refused}
use Rattle.text.specs.Bytes.{bytes}
use Rattle.forms.specs.Form.{printed}
use Rattle.pll_rows.specs.Sequence.{Log, accesses_of}
use Rattle.pll_step.specs.declared.PllSequence.{PllSequence}
use Rattle.c_pll_start.specs.declared.Plan.{Plan}
use Rattle.c_pll_start.specs.Step.{pll_plan_of}
use Rattle.c_pll_start.specs.Start.{start_of}
use Rattle.c_pll_seq.specs.Ran.{end_number}
use Rattle.desk_pll_seq.specs.Printed.{accesses, ended}

-- the seven numbers of a plan, each as far as its bits go
abbrev pub plan_of : List ℕ → Plan
plan_of n =
    record {
      pll = get_or n 0 0 % 256;
      bypassed = not (eqb (get_or n 1 0) 0);
      fdiv = get_or n 2 0 % 256;
      charge_pump = get_or n 3 0 % 256;
      loop_resistor = get_or n 4 0 % 256;
      lock_count = get_or n 5 0 % 65536;
      polls = get_or n 6 0 % 65536;
    }

-- the words that the host would return; a line has no more than 160
abbrev pub host_words : List ℕ → List ℕ
host_words n = take 160 (drop 7 n)

-- the run, or why there is none
abbrev pub started_text : Told PllSequence → Log → List ℕ
started_text (answered s) log = accesses log.accesses ++ ended (end_number log.end)
started_text (refused n carried) log = printed (bytes "refused #") (n ∷ [])

unfoldable pub run_text : Plan → List ℕ → List ℕ
run_text plan reads = started_text (start_of plan) (accesses_of (pll_plan_of plan) plan.polls reads)
