-- When evaluation refuses an image because of a PLL: document 01's "Evaluation", with W-205. That these are exactly the images that it
-- refuses so is shown in proofs/Refusals.antt.
use Rattle.std.specs.Prelude.{ℕ, ◌*◌, ◌<◌, ◌≡◌, false, ◌⊎◌, List, length}
use Rattle.fields.specs.Word.{read_field}
use Rattle.registers.specs.Fields.{FDIV}
use Rattle.registers.specs.Words.{word, WORDS, ARM_PLL_CTRL, IO_PLL_CTRL, DDR_PLL_CTRL}
use Rattle.sources.specs.Source.{bypassed}

-- a PLL by its control word: FDIV is 0, whether it is bypassed or not
abbrev pub FdivZero : ℕ → Type 0
FdivZero control = read_field control FDIV ≡ 0

-- it is not bypassed, and crystal times FDIV passes 32 bits
abbrev pub TooFast : ℕ → ℕ → Type 0
TooFast crystal control = (bypassed control ≡ false) × (4294967295 < crystal * read_field control FDIV)

-- some PLL of an image, in document 01's order
abbrev pub Some : (ℕ → Type 0) → List ℕ → Type 0
Some P image = P (word image ARM_PLL_CTRL) ⊎ (P (word image IO_PLL_CTRL) ⊎ P (word image DDR_PLL_CTRL))

-- refusal 2, Pll: the crystal is not looked at
pub record PllZero (image : List ℕ) : Type 0 where
  pub whole : length image ≡ WORDS
  pub some_zero : Some FdivZero image

-- refusal 3: a bypassed PLL is never the reason
pub record PllOverflow (crystal : ℕ) (image : List ℕ) : Type 0 where
  pub whole : length image ≡ WORDS
  pub none_zero : Some FdivZero image → ⊥
  pub too_fast : Some (TooFast crystal) image
