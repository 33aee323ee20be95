-- Each call tells one thing of the numbers of a line. Assumes nothing.
use Prim.Native.Nat.{ℕ}
use mathlib.Core.Path.{◌≡◌, refl, sym, subst, ◌∙◌}
use mathlib.Core.Bool.{Bool}
use mathlib.Core.List.{List}
use Rattle.handing.specs.Handed.{Answers, answers}
use Rattle.handing.proofs.Unique.{Single}
use Rattle.clocks.specs.declared.Clocks.{Clocks}
use Rattle.c_clocks.specs.Tells.{clock_words}
use Rattle.c_gem.specs.Tells.{GemTells}
use Rattle.c_gem.proofs.Laws as c_gem
use Rattle.desk_calls.specs.Calls.{Nothing, nothing_said, GemOfImage, not_evaluated, of_record}

pub one_number : {value : ℕ} → Single (Answers value)
one_number _ _ answers answers = refl

pub one_nothing : Single Nothing
one_nothing _ _ nothing_said nothing_said = refl

pub one_gem : (second : Bool) (word crystal : ℕ) (image : List ℕ) → Single (GemOfImage second word crystal image)
one_gem second word crystal image _ _ (not_evaluated d) (not_evaluated e) = let f = sym d ∙ e in cc
one_gem second word crystal image _ _ (not_evaluated d) (of_record e y) = let f = sym d ∙ e in cc
one_gem second word crystal image _ _ (of_record d x) (not_evaluated e) = let f = sym d ∙ e in cc
one_gem second word crystal image t u (of_record {clocks = c} d x) (of_record {clocks = b} e y) =
    let f = sym d ∙ e in
    let g : c ≡ b = cc in
    c_gem.one second word (clock_words b) t u (subst (λ (k : Clocks). GemTells second word (clock_words k) t) g x) y
