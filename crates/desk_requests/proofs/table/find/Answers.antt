-- `desk_requests::table::find` finds the table's row. Assumes nothing.
use mathlib.Core.Path.{◌≡◌, sym, ◌∙◌, subst}
use mathlib.Core.List.{List, []}
use Prim.Native.Nat.{ℕ}
use Rattle.std.proofs.Common.{rules, tests}
use Rattle.std.proofs.lemmas.Iterator.{first_from_find}
use Rattle.desk_requests.specs.Row.{request}
use Rattle.desk_requests.specs.Table.{names, shapes, no_call}
use Rattle.desk_requests.specs.Found.{Found, says_of, most_of}
use Rattle.desk_requests.specs.declared.table.Row.{Row}
use Rattle.desk_requests.specs.declared.table.Saying.TheVariants.{Help}
use Rattle.desk_requests.proofs.Rows.{in_table}
use Rattle.desk_requests.proofs.Finding.{same_shape, same_rule, at_place, looked, none_named}
use Rattle.desk_requests.proofs.table.find.Goals as goal

pub returns : goal.returns
unfolding names shapes
returns c =
    let word = c.args.name.now in
    let given = none_named c.if-is_empty.false c.is_empty.ensures in
    let nobody : Row = record { name = record { ref_ptr = (0, 0); now = [] }; shape = record { ref_ptr = (0, 0); now = [] }; says = Help } in
    let found = in_table c.iter.ensures.rest (λ (r : Row). r.name.now) word nobody c.find.result
    (λ rows. first_from_find _ _ _ (λ (r : Row). r.name.now ≡ word) (λ (r : Row). r.name.now ≡ word → ⊥) c.find.ensures.ran rows (λ x q k. search (rules, tests)) (λ x q k. search (rules, tests)))
    {P = Found word} (λ x at. record {
      place = at.place;
      named = at_place word given at.named;
      shape_is = sym (at.texts (λ (r : Row). r.shape.now) []) ∙ same_shape at.place;
      says_is = λ n text s. subst (λ (f : List ℕ → List ℕ → Type 0). f n text) (sym (at.rules (λ (r : Row). says_of r.says) (request no_call).says) ∙ same_rule at.place) s;
      short = at.bounded (λ (r : Row). most_of r.says) tt;
    }) in
    looked word given _ _ found c.copied-row.ensures c.ok_or.ensures.value
