-- Document 01's cases, worked out from the definitions alone.
use mathlib.Core.Path.{◌≡◌, refl, sym, ◌∙◌, subst}
use mathlib.Core.Bool.{Bool, true, false, ◌&&◌, ◌||◌}
use mathlib.Core.List.{[]}
use mathlib.Core.Logic.{⊎_elim}
use Prim.Native.Nat.{ℕ, zero, suc, ◌+◌, ◌<◌, zero-le}
use native.Mathlib.Nat.{zero-mul, not-suc-le-zero, le_of_suc-le-suc, eq-or-lt_of_le}
use native.Mathlib.Omega.{arith}
use lib.IntN.{negsuc}
use lib.Dec.{T, eqb, ltb, eqb→eq, ltb→lt, lit≤}
use lib.Ieee.{Float, fin, round, of_int, mul, div, sub, le}
use lib.Ieee.Fits.{and_l, and_r}
use Rattle.refusals.specs.Told.{answered, refused}
use Rattle.refusals.specs.Number.{NO_PAIR}
use Rattle.float32.specs.Whole.{of_whole, to_whole, abs}
use Rattle.float32.proofs.Parts.{plain}
use Rattle.float32.proofs.Tests.{or_split}
use Rattle.float32.proofs.Order.{at_most, itself}
use Rattle.float32.proofs.Zero as Zero
use Rattle.uart_candidate.specs.Range.{LAST}
use Rattle.uart_candidate.specs.Candidate.{clock_divisor, Candidate}
use Rattle.uart_candidate.specs.declared.BaudDivisors.{BaudDivisors}
use Rattle.uart_candidate.proofs.Pairs.{one_each}
use Rattle.uart_candidate.proofs.Laws.{bounded}
use Rattle.uart_best.specs.Best.{Right, best, no_pair}

least_zero : (x : Float) → T (plain x) → T (le Zero.zero x)
least_zero x p = at_most Zero.zero x tt p (simp zero-mul zero-le)

-- ---- 48,000 / 9,600
pub exactly : Right 48000 9600 (answered record { cd = 1; bdiv = 4; error = Zero.zero })
unfolding of_int round mul div sub abs to_whole
exactly = best _ record {
  candidate = record { in_range = record { from = lit≤ tt; to = lit≤ tt }; cd_is = refl; not_zero = lit≤ tt; not_above = lit≤ tt; error_is = refl };
  least = λ q h. least_zero q.error (bounded 48000 9600 (lit≤ tt) (lit≤ tt) h).is_plain;
  first = λ q h _. h.in_range.from;
}

-- ---- a test of every baud divider, computed
every : (ℕ → Bool) → ℕ → Bool
every f zero = true
every f (suc n) = f n && every f n

each : (f : ℕ → Bool) (n : ℕ) → T (every f n) → (k : ℕ) → k < n → T (f k)
unfolding every
each f zero t k h = absurd (not-suc-le-zero h)
each f (suc n) t k h = ⊎_elim (λ (e : k ≡ n). subst (λ (j : ℕ). T (f j)) (sym e) (and_l (f n) (every f n) t)) (λ (l : k < n). each f n (and_r (f n) (every f n) t) k l) (eq-or-lt_of_le (le_of_suc-le-suc h))

-- bdiv is below k, or its clock divisor is 0
slow : ℕ → ℕ → ℕ → Bool
slow reference k bdiv = ltb bdiv k || eqb (clock_divisor (of_whole reference) (of_whole 9600) bdiv) 0

below : (reference k : ℕ) → T (every (slow reference k) (LAST + 1)) → (p : BaudDivisors) → Candidate (of_whole reference) (of_whole 9600) p → p.bdiv < k
unfolding slow
below reference k t p h =
    ⊎_elim (ltb→lt p.bdiv k) (λ (z : T (eqb (clock_divisor (of_whole reference) (of_whole 9600) p.bdiv) 0)). absurd (zero_cd (h.cd_is ∙ eqb→eq _ 0 z)))
    (or_split (ltb p.bdiv k) (eqb (clock_divisor (of_whole reference) (of_whole 9600) p.bdiv) 0) (each (slow reference k) (LAST + 1) t p.bdiv (omega (arith, h.in_range.to))))
  where
    zero_cd : p.cd ≡ 0 → ⊥
    zero_cd z = omega (arith, h.not_zero)

-- ---- 24,000 / 9,600
abbrev half : BaudDivisors
half = record { cd = 1; bdiv = 4; error = fin false 1 (negsuc 0) }

half_candidate : Candidate (of_whole 24000) (of_whole 9600) half
unfolding of_int round mul div sub abs to_whole
half_candidate = record { in_range = record { from = lit≤ tt; to = lit≤ tt }; cd_is = refl; not_zero = lit≤ tt; not_above = lit≤ tt; error_is = refl }

half_alone : (q : BaudDivisors) → Candidate (of_whole 24000) (of_whole 9600) q → half ≡ q
unfolding of_int round mul div to_whole every slow
half_alone q h = let l = below 24000 5 tt q h in one_each half_candidate h (omega (arith, h.in_range.from))

pub half_off : Right 24000 9600 (answered half)
half_off = best half record {
  candidate = half_candidate;
  least = λ q h. subst (λ (p : BaudDivisors). T (le half.error p.error)) (half_alone q h) (itself half.error tt);
  first = λ q h _. h.in_range.from;
}

-- ---- 23,999 / 9,600
pub too_slow : Right 23999 9600 (refused NO_PAIR [])
unfolding of_int round mul div to_whole every slow
too_slow = no_pair (λ q h. let l = below 23999 4 tt q h in omega (arith, h.in_range.from))
