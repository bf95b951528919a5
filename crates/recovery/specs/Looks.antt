-- What stands on a page: its bytes if it is whole, or a dark medium's refusal.
use Rattle.std.specs.Prelude.{ℕ, cond, Ok, Err, Result}
use Rattle.medium.specs.Meaning.{Page, Meaning, page}
use Rattle.rules.specs.declared.fault.Fault.{Fault}
use Rattle.rules.specs.declared.fault.Refusal.TheVariants as refusal
use Rattle.rules.specs.declared.fault.Side.{Side}
use Rattle.rules.specs.Refusals.{touched}

abbrev pub looks : Side → Meaning → ℕ → Result Page Fault
looks sd m i = cond m.lit (Ok (page m i)) (Err (touched refusal.Dark sd i))
