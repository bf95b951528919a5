use Rattle.std.proofs.Common.{◌≡◌, ◌+◌, ◌-◌, map, length}
use Rattle.rules.specs.Queue.{groups}
use Rattle.rules.specs.Recovery.{read_segments, newest}
use Rattle.format.specs.Segments.{all_said}
use Rattle.recovery.specs.Segments.{Within}
use Rattle.recovery.proofs.SegmentPages.{ahead}
use Rattle.recovery.proofs.segments.read_segments.Given as goal

abbrev pub invariant-loop-place : goal.invariant-loop-place
invariant-loop-place g l =
    (length l.places.items ≡ l.place)
    × Within l.newest
    × (all_said l.newest ≡ newest (map all_said l.places.items))
    × (g.F.Medium.inorder l.initial.flash → g.F.Medium.inorder l.flash)
    × (g.F.Medium.inorder l.initial.flash
    → g.F.Medium.means l.flash ≡ g.F.Medium.means l.initial.flash)
    × (g.F.Medium.inorder l.initial.flash
    → groups (g.F.Medium.means l.initial.flash) ≡ l.shape.groups
    → read_segments (g.F.Medium.means l.initial.flash) l.shape.pages (l.shape.groups + 1) 0
    ≡ ahead (map all_said l.places.items)
    (read_segments (g.F.Medium.means l.initial.flash) l.shape.pages (l.shape.groups + 1 - l.place) l.place))
