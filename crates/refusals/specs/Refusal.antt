-- Each refusal's number, and what it carries.
use Rattle.std.specs.Prelude.{ℕ, List, [], ◌∷◌, Option, Some, None, Result, Ok, Err}
use Rattle.refusals.specs.Told.{Told, answered, refused}
use Rattle.refusals.specs.Number.{BAD_IMAGE, DIVISOR_ZERO, OVERFLOW, ZERO_INPUT, MUL_RANGE, ZERO_TARGET, BAD_MAX, NO_PAIR, NO_ROOM, SPEED, LOCK_TIMEOUT, BAD_LIMIT, ALREADY, ZERO_CLOCK, BAD_SETTINGS, NEWER, NOT_YOURS, BAD_ROWS, TRACE_LONG, BAD_FIELD}
use Rattle.refusals.specs.declared.Refusal.{Refusal}
use Rattle.refusals.specs.declared.Refusal.TheVariants.{BadImage, DivisorZero, Overflow, ZeroInput, MulRange, ZeroTarget, BadMax, NoPair, NoRoom, Speed, LockTimeout, BadLimit, Already, ZeroClock, BadSettings, Newer, NotYours, BadRows, TraceLong, BadField}

abbrev pub number_of : Refusal → ℕ
number_of BadImage = BAD_IMAGE
number_of (DivisorZero _) = DIVISOR_ZERO
number_of (Overflow _) = OVERFLOW
number_of ZeroInput = ZERO_INPUT
number_of (MulRange _) = MUL_RANGE
number_of ZeroTarget = ZERO_TARGET
number_of BadMax = BAD_MAX
number_of NoPair = NO_PAIR
number_of (NoRoom _) = NO_ROOM
number_of Speed = SPEED
number_of LockTimeout = LOCK_TIMEOUT
number_of BadLimit = BAD_LIMIT
number_of Already = ALREADY
number_of ZeroClock = ZERO_CLOCK
number_of (BadSettings _) = BAD_SETTINGS
number_of Newer = NEWER
number_of NotYours = NOT_YOURS
number_of BadRows = BAD_ROWS
number_of TraceLong = TRACE_LONG
number_of BadField = BAD_FIELD

-- a module, the multiplier, how many there have to be, an offset
abbrev pub carried_by : Refusal → Option ℕ
carried_by BadImage = None
carried_by (DivisorZero module_number) = Some module_number
carried_by (Overflow module_number) = Some module_number
carried_by ZeroInput = None
carried_by (MulRange multiplier) = Some multiplier
carried_by ZeroTarget = None
carried_by BadMax = None
carried_by NoPair = None
carried_by (NoRoom needed) = Some needed
carried_by Speed = None
carried_by LockTimeout = None
carried_by BadLimit = None
carried_by Already = None
carried_by ZeroClock = None
carried_by (BadSettings offset) = Some offset
carried_by Newer = None
carried_by NotYours = None
carried_by BadRows = None
carried_by TraceLong = None
carried_by BadField = None

abbrev pub listed : Option ℕ → List ℕ
listed None = []
listed (Some n) = n ∷ []

-- what a call tells that ends with an answer or one of these
abbrev pub told : {A : Type 0} → Result A Refusal → Told A
told (Ok a) = answered a
told (Err r) = refused (number_of r) (listed (carried_by r))
