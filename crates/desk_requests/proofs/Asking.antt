-- From the row of a line's name and the numbers of its words to what the table says of the line. Assumes nothing.
use Prim.Native.Nat.{ℕ}
use mathlib.Core.Path.{◌≡◌, sym, ◌∙◌, subst, subst⁻¹}
use mathlib.Core.List.{List, ◌∷◌}
use Rattle.std.specs.Prelude.{Result, Ok, Err}
use Rattle.shapes.specs.Shape.{MOST, Reads, parse}
use Rattle.shapes.specs.declared.BadWord.{BadWord}
use Rattle.desk_faults.specs.Complaint.{complaint}
use Rattle.desk_requests.specs.Table.{row}
use Rattle.desk_requests.specs.Answer.{read, told, at_fault, Answer, request, no_request}
use Rattle.desk_requests.specs.Found.{Found, Unknown, says_of, Short, Understood}
use Rattle.desk_requests.specs.declared.table.Row.{Row}
use Rattle.desk_requests.specs.declared.table.Saying.{Saying}

module _ {line : List (List ℕ)} {name : List ℕ} {rest : List (List ℕ)} (parts : line ≡ name ∷ rest) where
  pub unknown : (numbers : List ℕ) {bad : BadWord} {r : Result Saying BadWord} → Unknown name bad → r ≡ Err bad → Understood line numbers r
  unknown numbers {bad} none same =
      subst⁻¹ (Understood line numbers) same (subst⁻¹ (λ (ws : List (List ℕ)). Answer ws (complaint bad.word bad.fault)) parts
      (subst⁻¹ (λ (k : ℕ). Answer (name ∷ rest) (complaint k bad.fault)) none.0 (no_request (none.1 rest))))

  module _ {found : Row} {items : List ℕ} {reading : Result (Unit {0}) BadWord} (row_found : Found name found) (reads : Reads (parse found.shape.now MOST 2 rest) items reading) where
    as_table : Reads (read (row row_found.place) rest) items reading
    as_table = subst (λ (s : List ℕ). Reads (parse s MOST 2 rest) items reading) row_found.shape_is reads

    pub faulty : {bad : BadWord} {r : Result Saying BadWord} → reading ≡ Err bad → r ≡ Err bad → Understood line items r
    faulty {bad} e same =
        subst⁻¹ (Understood line items) same (subst⁻¹ (λ (ws : List (List ℕ)). Answer ws (complaint bad.word bad.fault)) parts
        (request (row_found.named rest) (at_fault (sym as_table.answer_is ∙ e))))

    pub understood : {fine : Unit {0}} → reading ≡ Ok fine → Short found.says × ((text : List ℕ) → says_of found.says items text → Answer line text)
    understood e = (
      row_found.short,
      λ text s.
          subst⁻¹ (λ (ws : List (List ℕ)). Answer ws text) parts
          (request (row_found.named rest) (told (sym as_table.answer_is ∙ e) (subst (λ (n : List ℕ). (row row_found.place).says n text) as_table.row_is (row_found.says_is items text s)))),
    )
