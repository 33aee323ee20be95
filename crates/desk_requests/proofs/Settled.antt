-- A line has one answer: each row of the table says one text of the numbers of a line. Assumes nothing.
use Prim.Native.Nat.{ℕ, zero, suc, ◌<◌, ◌^◌}
use mathlib.Core.Path.{◌≡◌, sym, ap, ◌∙◌, subst}
use mathlib.Core.List.{List, [], ◌∷◌}
use lib.ListN.{get_or, drop}
use Rattle.refusals.specs.Told.{Told, answered, refused}
use Rattle.handing.proofs.Unique.{Single}
use Rattle.text.specs.Bytes.{bytes}
use Rattle.forms.specs.Form.{printed}
use Rattle.shapes.specs.Shape.{MOST}
use Rattle.shapes.proofs.Laws.{numbers_below}
use Rattle.words.proofs.Choosing.{never}
use Rattle.c_two_stage.proofs.Laws as c_two_stage
use Rattle.c_i2c.proofs.Laws as c_i2c
use Rattle.c_ttc.proofs.Laws as c_ttc
use Rattle.c_pll_settings.proofs.Laws as c_pll_settings
use Rattle.c_uart.proofs.Laws as c_uart
use Rattle.c_clocks.proofs.Laws as c_clocks
use Rattle.c_ratios.proofs.Laws as c_ratios
use Rattle.c_clock_setup.proofs.Laws as c_clock_setup
use Rattle.desk_calls.specs.Calls.{nth, is_set}
use Rattle.desk_calls.proofs.Settled.{one_number, one_gem, one_nothing}
use Rattle.desk_uart_list.proofs.Listing as uart_list
use Rattle.forms.specs.Told.{refusal_text}
use Rattle.desk_requests.specs.Row.{Request, CallRow, Spoken, request as request_of}
use Rattle.desk_requests.specs.Table.{row, called, no_call}
use Rattle.std.specs.Prelude.{Result, Ok, Err}
use Rattle.shapes.specs.declared.BadWord.{BadWord}
use Rattle.desk_faults.specs.Complaint.{complaint}
use Rattle.desk_requests.specs.Answer.{read, Asked, told, at_fault, Answer, request, no_request}
use Rattle.desk_requests.proofs.Places.{call_row, same_row}

abbrev in_print : List ℕ → Told (List ℕ) → List ℕ
in_print form (answered words) = printed form words
in_print form (refused n carried) = refusal_text n carried

one_text : (form : List ℕ) {Tells : Told (List ℕ) → Type 0} → Single Tells → {s t : List ℕ} → Spoken form Tells s → Spoken form Tells t → s ≡ t
one_text form one (Spoken.answer x) (Spoken.answer y) = ap (in_print form) (one _ _ x y)
one_text form one (Spoken.answer x) (Spoken.refuses y) = ap (in_print form) (one _ _ x y)
one_text form one (Spoken.refuses x) (Spoken.answer y) = ap (in_print form) (one _ _ x y)
one_text form one (Spoken.refuses x) (Spoken.refuses y) = ap (in_print form) (one _ _ x y)

-- call by call, in the table's order
abbrev Small : List ℕ → Type 0
Small n = (i : ℕ) → nth n i < 2 ^ 32

infixr 5 ◌and◌
data AllSingle : List CallRow → Type 1 where
  none_left : AllSingle []
  ◌and◌ : {r : CallRow} {rows : List CallRow} → ((n : List ℕ) → Small n → Single (r.tells n)) → AllSingle rows → AllSingle (r ∷ rows)

all_single : AllSingle called
all_single =
    (λ n h. c_two_stage.one (nth n 0) (nth n 1) (nth n 2))
    and (λ n h. one_number)
    and (λ n h. c_i2c.one (nth n 0) (is_set (nth n 1)))
    and (λ n h. one_number)
    and (λ n h. c_ttc.one (nth n 0) (nth n 1))
    and (λ n h. c_pll_settings.one_target (nth n 0) (nth n 1))
    and (λ n h. c_pll_settings.one_mul (nth n 0))
    and (λ n h. c_uart.one (nth n 0) (nth n 1) (h 0) (h 1))
    and (λ n h. c_clock_setup.one_cpu (nth n 0) (is_set (nth n 1)) (nth n 2))
    and (λ n h. c_clock_setup.one_ddr (nth n 0) (nth n 1) (nth n 2))
    and (λ n h. c_clocks.one _ _)
    and (λ n h. one_gem _ _ _ _)
    and (λ n h. c_ratios.one _ _)
    and none_left

single_at : {rows : List CallRow} → AllSingle rows → (k : ℕ) (n : List ℕ) → Small n → Single ((get_or rows k no_call).tells n)
single_at none_left k n h = one_nothing
single_at (one and all) zero n h = one n h
single_at (one and all) (suc k) n h = single_at all k n h

one_call : (r : Request) (k : ℕ) (n : List ℕ) {s t : List ℕ} → Small n → r ≡ request_of (call_row k) → r.says n s → r.says n t → s ≡ t
one_call r k n {s} {t} h e x y =
    one_text (bytes (call_row k).form) (single_at all_single k n h) (subst (λ (q : Request). q.says n s) e x) (subst (λ (q : Request). q.says n t) e y)

one_says : (n : List ℕ) → Small n → (s t : List ℕ) (place : ℕ) → (row place).says n s → (row place).says n t → s ≡ t
unfolding row
one_says n h s t zero x y = uart_list.unique x y
one_says n h s t (suc zero) x y = x ∙ sym y
one_says n h s t (suc (suc zero)) x y = x ∙ sym y
one_says n h s t (suc (suc (suc k))) x y = one_call (row (suc (suc (suc k)))) k n h (same_row k) x y

-- what is said of how reading ended
abbrev complained : Result (Unit {0}) BadWord → List ℕ
complained (Ok _) = []
complained (Err bad) = complaint bad.word bad.fault

one_asked : (place : ℕ) (rest : List (List ℕ)) {s t : List ℕ} → Asked (row place) rest s → Asked (row place) rest t → s ≡ t
one_asked place rest (told e x) (told d y) = one_says (read (row place) rest).numbers (numbers_below (bytes (row place).shape) MOST 2 rest) _ _ place x y
one_asked place rest (told e x) (at_fault d) = never (cc)
one_asked place rest (at_fault e) (told d y) = never (cc)
one_asked place rest (at_fault e) (at_fault d) = ap complained (sym e ∙ d)

pub one_answer : (line : List (List ℕ)) (s t : List ℕ) → Answer line s → Answer line t → s ≡ t
one_answer line s t (request {place = i} e x) (request {place = j} d y) =
    let same : i ≡ j = cc in one_asked j (drop 1 line) (subst (λ (k : ℕ). Asked (row k) (drop 1 line) s) same x) y
one_answer line s t (request e x) (no_request d) = never (cc)
one_answer line s t (no_request e) (request d y) = never (cc)
one_answer line s t (no_request e) (no_request d) = cc
