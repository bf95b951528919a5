use Rattle.std.proofs.Common.{◌≡◌, length, take}
use Rattle.format.specs.Segments.{entries_left}
use Rattle.format.proofs.Loops.{before}
use Rattle.format.proofs.entries.entries_in.Given as goal

abbrev pub invariant-loop-i : goal.invariant-loop-i
invariant-loop-i l =
    (length l.entry-items ≡ 15)
    × (entries_left l.pages l.bytes l.first 0 ≡ before (take l.i l.entry-items) (entries_left l.pages l.bytes l.first l.i))
