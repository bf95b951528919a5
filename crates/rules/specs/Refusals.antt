-- The refusals by number and word, and which of them say where they were met.
use Rattle.std.specs.Prelude.{ℕ, Bool, true, false, List, Some, None, codes}
use Rattle.medium.specs.declared.Cause.{Cause}
use Rattle.medium.specs.declared.Cause.TheVariants as cause
use Rattle.rules.specs.declared.fault.Side.{Side}
use Rattle.rules.specs.declared.fault.Fault.{Fault}
use Rattle.rules.specs.declared.fault.Refusal.{Refusal}
use Rattle.rules.specs.declared.fault.Refusal.TheVariants as refusal

abbrev pub number_of : Refusal → ℕ
number_of refusal.Dark = 1
number_of refusal.Shut = 2
number_of refusal.Up = 3
number_of refusal.Size = 4
number_of refusal.NoPage = 5
number_of refusal.Held = 6
number_of refusal.AllHeld = 7
number_of refusal.Spent = 8
number_of refusal.Foreign = 9
number_of refusal.Stale = 10
number_of refusal.Length = 11

abbrev pub word_of : Refusal → List ℕ
word_of refusal.Dark = codes "dark"
word_of refusal.Shut = codes "shut"
word_of refusal.Up = codes "up"
word_of refusal.Size = codes "size"
word_of refusal.NoPage = codes "no page"
word_of refusal.Held = codes "held"
word_of refusal.AllHeld = codes "all held"
word_of refusal.Spent = codes "spent"
word_of refusal.Foreign = codes "foreign"
word_of refusal.Stale = codes "stale"
word_of refusal.Length = codes "length"

-- Dark and foreign carry the page at which they were met, if one was touched; the others never do.
abbrev pub has_place : Refusal → Bool
has_place refusal.Dark = true
has_place refusal.Shut = false
has_place refusal.Up = false
has_place refusal.Size = false
has_place refusal.NoPage = false
has_place refusal.Held = false
has_place refusal.AllHeld = false
has_place refusal.Spent = false
has_place refusal.Foreign = true
has_place refusal.Stale = false
has_place refusal.Length = false

abbrev pub is_dark : Refusal → Bool
is_dark refusal.Dark = true
is_dark refusal.Shut = false
is_dark refusal.Up = false
is_dark refusal.Size = false
is_dark refusal.NoPage = false
is_dark refusal.Held = false
is_dark refusal.AllHeld = false
is_dark refusal.Spent = false
is_dark refusal.Foreign = false
is_dark refusal.Stale = false
is_dark refusal.Length = false

-- A refusal that touched no page.
abbrev pub plain : Refusal → Fault
plain c = record { cause = c; place = None }

-- A refusal met at page i of a medium.
abbrev pub touched : Refusal → Side → ℕ → Fault
touched c sd i = record { cause = c; place = Some (record { side = sd; page = i }) }

-- What a medium's refusal is to the store: dark, or something that no store of its own left there.
abbrev pub of_cause : Side → ℕ → Cause → Fault
of_cause sd i cause.Dark = touched refusal.Dark sd i
of_cause sd i cause.Outside = touched refusal.Foreign sd i
of_cause sd i cause.Length = touched refusal.Foreign sd i
of_cause sd i cause.Unreadable = touched refusal.Foreign sd i
