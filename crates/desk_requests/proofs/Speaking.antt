-- What a call tells, printed, is what the table's row says of it. Assumes nothing.
use Prim.Native.Nat.{ℕ, zero, suc, ◌+◌}
use mathlib.Core.Path.{◌≡◌, refl, sym, ◌∙◌, subst⁻¹}
use mathlib.Core.List.{List, [], ◌∷◌, ◌++◌}
use lib.ListN.{length, get_or, drop, replicate}
use lib.Seq.{get_or-drop}
use Rattle.std.specs.Prelude.{Result}
use Rattle.refusals.specs.Told.{Told}
use Rattle.refusals.specs.Refusal.{told}
use Rattle.refusals.specs.declared.Refusal.{Refusal}
use Rattle.handing.specs.Handed.{Given, returned}
use Rattle.handing.proofs.Back.{Back, back}
use Rattle.forms.specs.Form.{printed, kind_of, takes}
use Rattle.forms.specs.Told.{told_text}
use Rattle.desk_calls.specs.Calls.{MOST_WORDS}
use Rattle.desk_requests.specs.Row.{Spoken}

-- words behind which there are zeros print as they do by themselves
same_words : (form u v : List ℕ) → ((i : ℕ) → get_or u i 0 ≡ get_or v i 0) → printed form u ≡ printed form v
same_words [] u v h = refl
same_words (c ∷ form) u v h =
    let k = takes (kind_of c) in
    let rest = same_words form (drop k u) (drop k v) (λ i. get_or-drop k u i 0 ∙ h (k + i) ∙ sym (get_or-drop k v i 0)) in
    cc (h 0, h 1, rest)

padded : (words zeros : List ℕ) → ((i : ℕ) → get_or zeros i 0 ≡ 0) → (i : ℕ) → get_or (words ++ zeros) i 0 ≡ get_or words i 0
padded [] zeros z i = z i
padded (w ∷ words) zeros z zero = refl
padded (w ∷ words) zeros z (suc i) = padded words zeros z i

all_zero : (n k i : ℕ) → ◌≡◌ {A = ℕ} (get_or (drop k (replicate n 0)) i 0) 0
all_zero zero zero i = refl
all_zero zero (suc k) i = refl
all_zero (suc n) zero zero = refl
all_zero (suc n) zero (suc i) = all_zero n zero i
all_zero (suc n) (suc k) i = all_zero n k i

said_back : (form : List ℕ) {Tells : Told (List ℕ) → Type 0} {row : List ℕ} {r : Result (Unit {0}) Refusal} → Back Tells (replicate MOST_WORDS 0) r row → Spoken form Tells (told_text form (told r) row)
said_back form {Tells} (Back.answer {words = words} t) =
    subst⁻¹ (Spoken form Tells) (same_words form (words ++ drop (length words) (replicate MOST_WORDS 0)) words (padded words (drop (length words) (replicate MOST_WORDS 0)) (all_zero MOST_WORDS (length words)))) (Spoken.answer t)
said_back form (Back.refusal t) = Spoken.refuses t

pub spoken : (form : List ℕ) {Tells : Told (List ℕ) → Type 0} {row : List ℕ} (r : Result (Unit {0}) Refusal) → Given Tells (replicate MOST_WORDS 0) (returned r) row → Spoken form Tells (told_text form (told r) row)
spoken form r g = said_back form (back r g)
