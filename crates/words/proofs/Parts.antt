-- Parts of a line that stand side by side, and parts up to a byte.
use mathlib.Core.Path.{◌≡◌, sym, ap, ◌∙◌}
use mathlib.Core.List.{List, [], ◌∷◌, ◌++◌}
use Prim.Native.Nat.{ℕ, suc, ◌+◌, ◌-◌, ◌≤◌, ◌<◌}
use native.Mathlib.Omega.{arith}
use lib.ListN.{length, get_or, take, drop, length-take, length-drop}
use lib.Seq.{take-add, take-suc, drop-drop, get_or-take, get_or-drop}
use Rattle.words.specs.Words.{Until, part}

pub no_part : (l : List ℕ) (from : ℕ) → part l from from ≡ []
no_part l from = ap (λ (n : ℕ). take n (drop from l)) none
  where
    none : from - from ≡ 0
    none = omega arith

pub side_by_side : (l : List ℕ) (a b c : ℕ) → a ≤ b → b ≤ c → part l a b ++ part l b c ≡ part l a c
side_by_side l a b c h k =
    ap (λ (t : List ℕ). part l a b ++ take (c - b) t) (ap (λ (n : ℕ). drop n l) at ∙ sym (drop-drop (b - a) a l))
    ∙ sym (take-add (b - a) (c - b) (drop a l))
    ∙ ap (λ (n : ℕ). take n (drop a l)) sum
  where
    at : b ≡ a + (b - a)
    at = omega arith

    sum : b - a + (c - b) ≡ c - a
    sum = omega arith

-- a part with the byte after it
pub with_next : (l : List ℕ) (a b : ℕ) {byte : ℕ} → a ≤ b → b < length l → get_or l b 0 ≡ byte → part l a (b + 1) ≡ part l a b ++ (byte ∷ [])
with_next l a b h k e =
    ap (λ (n : ℕ). take n (drop a l)) one
    ∙ take-suc (drop a l) (b - a) 0 (omega (arith, length-drop a l))
    ∙ ap (λ (c : ℕ). part l a b ++ (c ∷ [])) (get_or-drop a l (b - a) 0 ∙ ap (λ (n : ℕ). get_or l n 0) at ∙ e)
  where
    one : b + 1 - a ≡ suc (b - a)
    one = omega arith

    at : a + (b - a) ≡ b
    at = omega arith

-- up to the first place of a byte there is none
pub none_in_part : {l : List ℕ} {a b byte : ℕ} → Until l a byte b → (k : ℕ) → k < length (part l a b) → get_or (part l a b) k 0 ≡ byte → ⊥
none_in_part {l} {a} {b} u k h e = u.none_before k short (sym (get_or-drop a l k 0) ∙ sym (get_or-take (b - a) (drop a l) k 0 short) ∙ e)
  where
    short : k < b - a
    short = omega (arith, h, length-take (b - a) (drop a l))

pub length_part : (l : List ℕ) (a b : ℕ) → b ≤ length l → length (part l a b) ≡ b - a
length_part l a b h = omega (arith, length-take (b - a) (drop a l), length-drop a l)
