-- A test that computes whether an answer is right, and that what passes it is right. The code's table and document 01's cases are
-- both shown by it. Assumes nothing.
use mathlib.Core.Path.{◌≡◌, sym, subst}
use mathlib.Core.Logic.{◌⊎◌, inl, inr}
use mathlib.Core.Bool.{Bool, false, ◌&&◌, ◌||◌}
use mathlib.Core.List.{[], ◌∷◌}
use Prim.Native.Nat.{ℕ, ◌/◌, ◌<◌}
use lib.Dec.{T, leb, ltb, eqb, leb→le, ltb→lt, eqb→eq}
use Rattle.refusals.specs.Told.{Told, answered, refused}
use Rattle.refusals.specs.Number.{ZERO_INPUT, MUL_RANGE}
use Rattle.tables.specs.Table.{any}
use Rattle.tables.proofs.Table.{both, either, of_any}
use Rattle.pll_settings.specs.declared.PllConfig.{PllConfig}
use Rattle.pll_settings.specs.Settings.{Row, rows, config, Right, out_of_range, by_row, RightTarget, no_crystal, by_multiplier}

abbrev has : PllConfig → Row → Bool
has c row =
    eqb row.charge_pump c.charge_pump && (eqb row.resistor c.loop_resistor && eqb row.lock_count c.lock_count)

-- the row's range holds the multiplier, and its numbers are those of the setting
abbrev fitting : ℕ → PllConfig → Row → Bool
fitting m c row = (leb row.first m && leb m row.last) && has c row

abbrev pub right : ℕ → Told PllConfig → Bool
right m (answered c) = eqb m c.fdiv && any (fitting m c) rows
right m (refused k []) = false
right m (refused k (n ∷ [])) = (eqb MUL_RANGE k && eqb m n) && (ltb m 13 || ltb 66 m)
right m (refused k (n ∷ l ∷ ns)) = false

abbrev pub right_target : ℕ → ℕ → Told PllConfig → Bool
right_target crystal target (answered c) = ltb 0 crystal && right (target / crystal) (answered c)
right_target crystal target (refused k []) = eqb crystal 0 && eqb ZERO_INPUT k
right_target crystal target (refused k (n ∷ ns)) = ltb 0 crystal && right (target / crystal) (refused k (n ∷ ns))

same : (m : ℕ) (c : PllConfig) (row : Row) → m ≡ c.fdiv → T (has c row) → config m row ≡ c
same m c row e t =
    let h = both (eqb row.charge_pump c.charge_pump) (eqb row.resistor c.loop_resistor && eqb row.lock_count c.lock_count) t in
    let g = both (eqb row.resistor c.loop_resistor) (eqb row.lock_count c.lock_count) h.1 in
    let p = eqb→eq row.charge_pump c.charge_pump h.0 in
    let r = eqb→eq row.resistor c.loop_resistor g.0 in
    let n = eqb→eq row.lock_count c.lock_count g.1 in
    λ i. record { fdiv = e i; charge_pump = p i; loop_resistor = r i; lock_count = n i }

found : (m : ℕ) (c : PllConfig) → m ≡ c.fdiv → T (any (fitting m c) rows) → Right m (answered c)
found m c e t =
    let (row, row_in, fits) = of_any (fitting m c) rows t in
    let h = both (leb row.first m && leb m row.last) (has c row) fits in
    let g = both (leb row.first m) (leb m row.last) h.0 in
    subst (λ (d : PllConfig). Right m (answered d)) (same m c row e h.1)
    (by_row row row_in (leb→le row.first m g.0) (leb→le m row.last g.1))

outside : (m : ℕ) → T (ltb m 13 || ltb 66 m) → (m < 13) ⊎ (66 < m)
outside m t = either (ltb m 13) (ltb 66 m) t (λ u. inl (ltb→lt m 13 u)) (λ u. inr (ltb→lt 66 m u))

pub sound : (m : ℕ) (a : Told PllConfig) → T (right m a) → Right m a
sound m (answered c) t =
    let h = both (eqb m c.fdiv) (any (fitting m c) rows) t in
    found m c (eqb→eq m c.fdiv h.0) h.1
sound m (refused k []) t = absurd t
sound m (refused k (n ∷ [])) t =
    let h = both (eqb MUL_RANGE k && eqb m n) (ltb m 13 || ltb 66 m) t in
    let g = both (eqb MUL_RANGE k) (eqb m n) h.0 in
    rw (sym (eqb→eq MUL_RANGE k g.0), sym (eqb→eq m n g.1)) (out_of_range (outside m h.1))
sound m (refused k (n ∷ l ∷ ns)) t = absurd t

pub sound_target : (crystal target : ℕ) (a : Told PllConfig) → T (right_target crystal target a) → RightTarget crystal target a
sound_target crystal target (answered c) t =
    let h = both (ltb 0 crystal) (right (target / crystal) (answered c)) t in
    by_multiplier (ltb→lt 0 crystal h.0) (sound (target / crystal) (answered c) h.1)
sound_target crystal target (refused k []) t =
    let h = both (eqb crystal 0) (eqb ZERO_INPUT k) t in
    rw (sym (eqb→eq ZERO_INPUT k h.1)) (no_crystal (eqb→eq crystal 0 h.0))
sound_target crystal target (refused k (n ∷ ns)) t =
    let h = both (ltb 0 crystal) (right (target / crystal) (refused k (n ∷ ns))) t in
    by_multiplier (ltb→lt 0 crystal h.0) (sound (target / crystal) (refused k (n ∷ ns)) h.1)
