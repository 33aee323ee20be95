-- `desk_pll_seq::request::host_words` meets its contract.
use mathlib.Core.Path.{refl, ap, ◌∙◌}
use mathlib.Core.List.{List}
use Prim.Native.Nat.{ℕ}
use denote.Ref.{Bor}
use Rattle.desk_pll_seq.proofs.Telling.{behind, first_160}
use Rattle.desk_pll_seq.proofs.request.host_words.Goals as goal

pub returns : goal.returns
returns c =
    let words = ap (λ (b : Bor (List ℕ)). b.now) c.unwrap_or-words.ensures ∙ behind c.args.n.now c.get.result _ refl c.get.ensures.lookup.0 in
    first_160 c.args.n.now words c.min.ensures
