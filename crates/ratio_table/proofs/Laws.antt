-- The laws of the table of four clocks that run. Assumes nothing.
use Prim.Native.Nat.{ℕ, ◌*◌, ◌<◌}
use mathlib.Core.Path.{◌≡◌, sym, ap, ◌∙◌}
use mathlib.Core.List.{List}
use native.Mathlib.Nat.{mul_comm, mul-mul-mul_comm, mul-pos}
use Rattle.ratio_table.specs.declared.Above.{Above}
use Rattle.ratio_table.specs.declared.Ratio.{Ratio}
use Rattle.ratio_table.specs.declared.Undivided.{Undivided}
use Rattle.ratio_table.specs.Lowest.{ratio, inverse}
use Rattle.ratio_table.specs.Table.{Between, Mirrored, Ratios, Runs, Six, entry, mirror, mirrored, over}
use Rattle.ratio_table.proofs.Entries.{same_table}
use Rattle.ratio_table.proofs.Lowest.{cancelled, crossed, itself, no_zero, one_ratio, one_reduced, times, turned}

-- two clocks that run have one ratio
pub one_between : {a b : Undivided} {r s : Ratio} → Runs a → Runs b → Between a b r → Between a b s → r ≡ s
one_between p q = one_ratio (mul-pos p.0 q.1) (mul-pos q.0 p.1)

-- clock a to b times b to c is a to c: b's source and product stand on both sides
through : (a b c : Undivided) → over b a * over c b ≡ over b b * over c a
through a b c =
    ap (λ (n : ℕ). over b a * n) (mul_comm c.source b.product)
    ∙ mul-mul-mul_comm b.source a.product b.product c.source
    ∙ ap (λ (n : ℕ). over b b * n) (mul_comm a.product c.source)

chain : {a b c : Undivided} (r s t : Ratio) → Runs a → Runs b → Runs c → Between a b r → Between b c s → Between a c t →
    r.num * s.num * t.den ≡ t.num * (r.den * s.den)
chain {a} {b} {c} r s t p q o hr hs ht =
    crossed (mul-pos p.0 o.1) (mul-pos o.0 p.1) (r.num * s.num) (r.den * s.den) t.num t.den
    (cancelled (over b b) (over a c) (over c a) (r.num * s.num) (r.den * s.den) (mul-pos q.0 q.1)
    (ap (λ (n : ℕ). r.num * s.num * n) (sym (through a b c))
    ∙ times (over a b) (over b a) (over b c) (over c b) r.num r.den s.num s.den hr.equal hs.equal
    ∙ ap (λ (n : ℕ). n * (r.den * s.den)) (mul_comm (over a b) (over b c) ∙ through c b a)))
    ht.equal

module _ {clock : ℕ → Undivided} (runs : (i : ℕ) → i < 4 → Runs (clock i)) {t : List (List Ratio)} (r : Ratios clock t) where
  -- only one pair of numbers is clock i to clock j
  pub only : (i j : ℕ) → i < 4 → j < 4 → {s : Ratio} → Between (clock i) (clock j) s → entry t i j ≡ s
  only i j h k s = one_between (runs i h) (runs j k) (r.each i h j k) s

  pub diagonal : (i : ℕ) → i < 4 → entry t i i ≡ ratio 1 1
  diagonal i h = only i i h h (itself (over (clock i) (clock i)))

  pub across : (i j : ℕ) → i < 4 → j < 4 → entry t j i ≡ inverse (entry t i j)
  across i j h k = only j i k h (turned (r.each i h j k))

  pub chained : (i j k : ℕ) → i < 4 → j < 4 → k < 4 → (entry t i j).num * (entry t j k).num * (entry t i k).den ≡ (entry t i k).num * ((entry t i j).den * (entry t j k).den)
  chained i j k hi hj hk =
      chain (entry t i j) (entry t j k) (entry t i k) (runs i hi) (runs j hj) (runs k hk)
      (r.each i hi j hj) (r.each j hj k hk) (r.each i hi k hk)

  pub above_zero : (i j : ℕ) → i < 4 → j < 4 → (0 < (entry t i j).num) × (0 < (entry t i j).den)
  above_zero i j h k =
      let p = runs i h in
      let q = runs j k in
      no_zero (mul-pos p.0 q.1) (mul-pos q.0 p.1) (r.each i h j k)

  pub one_table : {u : List (List Ratio)} → Ratios clock u → t ≡ u
  one_table s = same_table r.square s.square (λ i j h k. only i j h k (s.each i h j k))

-- any four clocks, those that do not run too, have one six
pub one_six : {a b c d : Undivided} {s t : Above} → Six a b c d s → Six a b c d t → s ≡ t
one_six x y =
    λ i.
    record {
      r01 = one_reduced x.r01 y.r01 i;
      r02 = one_reduced x.r02 y.r02 i;
      r03 = one_reduced x.r03 y.r03 i;
      r12 = one_reduced x.r12 y.r12 i;
      r13 = one_reduced x.r13 y.r13 i;
      r23 = one_reduced x.r23 y.r23 i;
    }

-- and so one table
pub one_mirrored : {a b c d : Undivided} {t u : List (List Ratio)} → Mirrored a b c d t → Mirrored a b c d u → t ≡ u
one_mirrored (mirrored x) (mirrored y) = ap (mirror (ratio 1 1)) (one_six x y)
