-- What a scan says, as the rules have it.
use Rattle.std.specs.Prelude.{ℕ, List, map, Option}
use Rattle.rules.specs.Format.{Segment}
use Rattle.rules.specs.Recovery as rule
use Rattle.format.specs.Segments.{all_said}
use Rattle.recovery.specs.declared.scan.Scan.{Scan}
use Rattle.recovery.specs.Assembled.{last_in, front_in}
use Rattle.recovery.specs.Tails.{tail_of}

-- All segments, the newest of them, and the tail.
abbrev pub pages : Scan → List (Option Segment)
pages x = map all_said x.segments.places.items

abbrev pub newest : Scan → Option Segment
newest x = all_said x.segments.newest

abbrev pub tail : Scan → rule.Tail
tail x = tail_of x.tail.items

-- The last number, and the front.
abbrev pub last : Scan → ℕ
last x = last_in (newest x) (tail x)

abbrev pub front : Scan → ℕ
front x = front_in x.shape.groups (newest x) (last x)
