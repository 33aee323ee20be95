-- `words::split::place` meets its contract.
use mathlib.Core.Path.{◌≡◌}
use mathlib.Core.List.{List}
use Prim.Native.Nat.{ℕ}
use Rattle.std.proofs.Common.{rules, tests}
use Rattle.std.proofs.lemmas.Iterator.{IsFirst-from_position}
use Rattle.words.proofs.Splitting.{words_yielded, placed}
use Rattle.words.proofs.split.place.Goals as goal

pub returns : goal.returns
returns c = placed _ _ _ (IsFirst-from_position _ _ _ (λ (name : List ℕ). name ≡ c.args.word.now) (λ (name : List ℕ). name ≡ c.args.word.now → ⊥) c.position.ensures.ran (words_yielded _ c.args.names.now c.split.ensures.rest c.split.ensures.done c.split.ensures.closure (λ x r q k. search (rules, tests))) (λ x q k. search (rules, tests)) (λ x q k. search (rules, tests)))
