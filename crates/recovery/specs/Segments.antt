-- Segment pages, one and then all.
use Rattle.std.specs.Prelude.{ℕ, ◌+◌, ◌≤◌, cond, List, map, IfSome, Ok, Err, Option, Result}
use Rattle.medium.specs.Meaning.{Meaning, page}
use Rattle.rules.specs.declared.fault.Fault.{Fault}
use Rattle.rules.specs.Format.{Segment, most}
use Rattle.rules.specs.Queue.{frames}
use Rattle.rules.specs.Recovery.{dark_at, from_page}
use Rattle.format.specs.declared.segment.Summary.{Summary}
use Rattle.format.specs.Segments.{all_said}
use Rattle.recovery.specs.declared.scan.Segments.{Segments}

-- No number is past the highest.
abbrev pub Within : Option Summary → Type 0
Within o = IfSome o (λ s. s.last ≤ most)

-- The j-th segment page, and the same as the code has it.
abbrev pub one_segment : Meaning → ℕ → ℕ → Result (Option Segment) Fault
one_segment m p j = cond m.lit (from_page m p j (page m (frames m + j))) (Err (dark_at (frames m + j)))

abbrev pub one_said : Result (Option Summary) Fault → Result (Option Segment) Fault
one_said (Err e) = Err e
one_said (Ok o) = Ok (all_said o)

abbrev pub said_in : Result Segments Fault → Result (List (Option Segment)) Fault
said_in (Err e) = Err e
said_in (Ok x) = Ok (map all_said x.places.items)
