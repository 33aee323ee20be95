-- The PLL sequence of document 01 as a table, one row a register access, and the list of accesses that it comes to for the words
-- that the host returns. A supplier's log is judged by this very list.
use Rattle.std.specs.Prelude.{ℕ, zero, suc, Bool, true, false, cond, List, [], ◌∷◌, eqb}
use Rattle.fields.specs.declared.Field.{Field}
use Rattle.fields.specs.Word.{read_field, set_field}
use Rattle.registers.specs.Fields.{RESET, PWRDWN, BYPASS_QUAL, BYPASS_FORCE, FDIV, CHARGE_PUMP, LOOP_RESISTOR, LOCK_COUNT}
use Rattle.registers.specs.Words.{PLL_STATUS}
use Rattle.registers.specs.Plls.{pll_ctrl, pll_cfg, pll_lock}
use Rattle.pll_settings.specs.declared.PllConfig.{PllConfig}
use Rattle.pll_rows.specs.declared.PllPlan.{PllPlan}

-- ---- the table

-- Read a word of the image; write the word last read or written, changed, to a word of the image; read a word of the image until
-- a bit of it is seen.
pub data Row : Type 0 where
  read : ℕ → Row
  write : ℕ → (ℕ → ℕ) → Row
  poll : ℕ → Field → Row

abbrev pub with_settings : PllConfig → ℕ → ℕ
with_settings c w =
    set_field (set_field (set_field w CHARGE_PUMP c.charge_pump) LOOP_RESISTOR c.loop_resistor) LOCK_COUNT c.lock_count

-- only where the PLLs were booted bypassed
abbrev pub with_qualifier : Bool → ℕ → ℕ
with_qualifier true w = set_field w BYPASS_QUAL 0
with_qualifier false w = w

abbrev pub with_bypass : Bool → ℕ → ℕ
with_bypass bypassed w = set_field (set_field (with_qualifier bypassed w) BYPASS_FORCE 1) PWRDWN 0

abbrev pub sequence : PllPlan → List Row
sequence plan =
    read (pll_ctrl plan.pll)
    ∷ write (pll_ctrl plan.pll) (λ w. set_field w FDIV plan.config.fdiv)
    ∷ read (pll_cfg plan.pll)
    ∷ write (pll_cfg plan.pll) (with_settings plan.config)
    ∷ read (pll_ctrl plan.pll)
    ∷ write (pll_ctrl plan.pll) (with_bypass plan.bypassed)
    ∷ read (pll_ctrl plan.pll)
    ∷ write (pll_ctrl plan.pll) (λ w. set_field w RESET 1)
    ∷ write (pll_ctrl plan.pll) (λ w. set_field w RESET 0)
    ∷ poll PLL_STATUS (pll_lock plan.pll)
    ∷ read (pll_ctrl plan.pll)
    ∷ write (pll_ctrl plan.pll) (λ w. set_field w BYPASS_FORCE 0)
    ∷ []

-- ---- the list of accesses

-- Kind 0 is a read and 1 a write; the value of a read is the word that the host returned.
pub record Access : Type 0 where
  pub kind : ℕ
  pub number : ℕ
  pub value : ℕ

abbrev pub a_read : ℕ → ℕ → Access
a_read i v = record { kind = 0; number = i; value = v }

abbrev pub a_write : ℕ → ℕ → Access
a_write i v = record { kind = 1; number = i; value = v }

-- Starved: the host returns no further word.
pub data Ending : Type 0 where
  locked timed_out starved : Ending

pub record Log : Type 0 where
  pub accesses : List Access
  pub end : Ending

abbrev pub ends : Ending → Log
ends e = record { accesses = []; end = e }

abbrev pub after : Access → Log → Log
after a l = record { accesses = a ∷ l.accesses; end = l.end }

abbrev pub reads : ℕ → (ℕ → List ℕ → Log) → List ℕ → Log
reads i go [] = ends starved
reads i go (x ∷ words) = after (a_read i x) (go x words)

-- the bit is 1 in the word
abbrev pub seen : ℕ → Field → Bool
seen x bit = eqb (read_field x bit) 1

-- n polls are left
abbrev pub polls : ℕ → Field → (ℕ → ℕ → List ℕ → Log) → ℕ → List ℕ → Log
polls i bit go zero words = ends timed_out
polls i bit go (suc n) [] = ends starved
polls i bit go (suc n) (x ∷ words) =
    after (a_read i x) (cond (seen x bit) (go n x words) (polls i bit go n words))

-- What the rows come to, with n polls left, the word w last read or written, and these words still to be returned.
abbrev pub log : List Row → ℕ → ℕ → List ℕ → Log
log [] n w words = ends locked
log (read i ∷ rows) n w words = reads i (log rows n) words
log (write i f ∷ rows) n w words = after (a_write i (f w)) (log rows n (f w) words)
log (poll i bit ∷ rows) n w words = polls i bit (log rows) n words

-- The whole sequence, for a poll limit and the words that the host returns.
abbrev pub accesses_of : PllPlan → ℕ → List ℕ → Log
accesses_of plan limit words = log (sequence plan) limit 0 words
