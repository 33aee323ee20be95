-- The search row by row: what it has before each row, each step, and when it may stop.
-- Assumes nothing.
use Prim.Native.Nat.{ℕ, ◌+◌, ◌-◌, ◌≤◌, ◌<◌}
use mathlib.Core.Path.{◌≡◌, subst}
use native.Mathlib.Nat.{add-sub_cancel}
use native.Mathlib.Omega.{arith}
use Rattle.nearness.specs.Distance.{distance, InRange}
use Rattle.nearness.specs.Nearest.{Nearest}
use Rattle.nearness.specs.Found.{AtTurn, Found}
use Rattle.nearness.proofs.Rows as Rows

-- the pair is the nearest of the rows before next, and diff is how far it is from the target
pub record Tried (value : ℕ → ℕ → ℕ) (target firsts seconds next d0 d1 diff : ℕ) : Type 0 where
  pub some : 1 < next
  pub at_most : next ≤ firsts + 1
  pub nearest : Nearest value target (next - 1) seconds d0 d1
  pub row : AtTurn (value d0) target seconds d1 diff

module _ {value : ℕ → ℕ → ℕ} {target firsts seconds : ℕ} where
  pub start : {d0 d1 diff : ℕ} → 0 < firsts → d0 ≡ 1 → AtTurn (value 1) target seconds d1 diff
      → Tried value target firsts seconds 2 d0 d1 diff
  start some is_first row =
      rw is_first
      (record {
        some = omega arith;
        at_most = omega arith;
        nearest = Rows.start value target seconds row.nearest;
        row = row;
      })

  module _ {next d0 d1 diff : ℕ} (tried : Tried value target firsts seconds next d0 d1 diff) where
    -- the rows from next on, or some of them, have nothing nearer
    unmoved : (rows : ℕ) → next ≤ rows + 1
        → ((e0 e1 : ℕ) → next ≤ e0 → InRange rows e0 → InRange seconds e1 → diff ≤ distance (value e0 e1) target)
        → Nearest value target rows seconds d0 d1
    unmoved rows le rest =
        let some : 1 < next = tried.some in
        Rows.more value target seconds {k = next - 1} (omega arith)
        (λ e0 e1 lt r0 r1. omega (arith, rest e0 e1 (omega arith) r0 r1, tried.row.is_diff))
        tried.nearest

    -- the row `next`, whose nearest second divisor is e1
    module _ {e1 new : ℕ} (more : next ≤ firsts) (row : AtTurn (value next) target seconds e1 new) where
      nearer_row : (k : ℕ) → next ≡ k + 1 → Nearest value target k seconds d0 d1 → new < diff → Nearest value target next seconds next e1
      nearer_row k is_next found nearer =
          let closer : distance (value next e1) target < distance (value d0 d1) target = omega (arith, row.is_diff, tried.row.is_diff) in
          rw is_next (Rows.better value target seconds (rw is_next at closer) (rw is_next at row.nearest) found)

      pub better : {e0 : ℕ} → e0 ≡ next → new < diff → Tried value target firsts seconds (next + 1) e0 e1 new
      better is_next nearer =
          rw is_next
          (record {
            some = omega (arith, tried.some);
            at_most = omega arith;
            nearest = rw (add-sub_cancel next 1) (nearer_row (next - 1) (omega (arith, tried.some)) tried.nearest nearer);
            row = row;
          })

      pub same : diff ≤ new → Tried value target firsts seconds (next + 1) d0 d1 diff
      same no_nearer =
          record {
            some = omega (arith, tried.some);
            at_most = omega arith;
            nearest = unmoved (next + 1 - 1) (omega arith) (λ e0 f1 le r0 r1.
                let this_row : e0 ≡ next = omega arith in
                rw this_row (omega (arith, row.nearest.nothing_nearer f1 r1, row.is_diff)));
            row = tried.row;
          }

    -- the search may stop where no later row is nearer
    pub stop : ((e0 e1 : ℕ) → next ≤ e0 → InRange firsts e0 → InRange seconds e1 → diff ≤ distance (value e0 e1) target)
        → Found value target firsts seconds d0 d1
    stop rest =
        record {
          nearest = unmoved firsts tried.at_most rest;
          row = subst (AtTurn (value d0) target seconds d1) tried.row.is_diff tried.row;
        }

    pub all : firsts < next → Found value target firsts seconds d0 d1
    all le = stop (λ e0 e1 lt r0 r1. omega arith)

    pub exact : diff ≡ 0 → Found value target firsts seconds d0 d1
    exact hit = stop (λ e0 e1 lt r0 r1. omega arith)
