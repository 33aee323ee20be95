-- The laws of an image's table. Assumes nothing.
use Prim.Native.Nat.{ℕ}
use mathlib.Core.Path.{◌≡◌, refl, sym, ap, subst, ◌∙◌}
use mathlib.Core.List.{List}
use Rattle.refusals.specs.Told.{Told, answered, refused}
use Rattle.ratio_table.specs.declared.Ratio.{Ratio}
use Rattle.ratio_table.specs.Table.{Ratios}
use Rattle.ratio_table.proofs.Laws.{above_zero, one_table}
use Rattle.ratios.specs.Checked.{Checks, Fine, Right, Tied, accepted, all_zero, checked, clock_at, fine, no_zero, ratios, refusal, rejected}
use Rattle.ratios.proofs.Checking.{accepted_runs}

different : {n : ℕ} {carried : List ℕ} → ◌≡◌ {A = Told Fine} (answered fine) (refused n carried) → ⊥
different e = cc

module _ (crystal : ℕ) (image : List ℕ) where
  -- where the check accepts, the table has the ratios; all the laws of crate ratio_table hold of it, by `accepted_runs`
  pub ratios_of : checked crystal image ≡ answered fine → {t : List (List Ratio)} → Right crystal image t → Ratios (clock_at crystal image) t
  ratios_of ok (accepted _ r) = r
  ratios_of ok (rejected not_ok) = absurd (different (sym ok ∙ not_ok))

  pub unique : {t u : List (List Ratio)} → Right crystal image t → Right crystal image u → t ≡ u
  unique (accepted ok r) s = one_table (accepted_runs crystal image ok) r (ratios_of ok s)
  unique (rejected not_ok) (accepted ok s) = absurd (different (sym ok ∙ not_ok))
  unique (rejected _) (rejected _) = refl

  pub one_check : (t u : Told (List (List Ratio))) → Checks crystal image t → Checks crystal image u → t ≡ u
  one_check _ _ (ratios ok r) (ratios _ s) = ap answered (one_table (accepted_runs crystal image ok) r s)
  one_check _ _ (ratios ok r) (refusal not_ok) = absurd (different (sym ok ∙ not_ok))
  one_check _ _ (refusal not_ok) (ratios ok s) = absurd (different (sym ok ∙ not_ok))
  one_check _ _ (refusal x) (refusal y) = let e = sym x ∙ y in cc

  -- the table and what the check call tells
  pub tied : {c : Told (List (List Ratio))} {t : List (List Ratio)} → Checks crystal image c → Right crystal image t → Tied c t
  tied (ratios {table} ok r) s =
      subst (Tied (answered table)) (one_table (accepted_runs crystal image ok) r (ratios_of ok s))
      (no_zero (above_zero (accepted_runs crystal image ok) r))
  tied (refusal not_ok) (accepted ok _) = absurd (different (sym ok ∙ not_ok))
  tied (refusal _) (rejected _) = all_zero
