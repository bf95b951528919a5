use Rattle.std.proofs.Common.{◌≡◌, ◌+◌, ◌*◌, ◌≤◌, length}
use Rattle.rules.specs.Queue.{frames}
use Rattle.recovery.specs.Tails.{tail_left}
use Rattle.recovery.proofs.TailFrames.{ahead}
use Rattle.recovery.proofs.tail.read_tail.Given as goal

abbrev pub invariant-loop-q : goal.invariant-loop-q
invariant-loop-q g l =
    (l.q ≡ l.after + 1 + length l.tail.items)
    × (g.F.Medium.inorder l.initial.flash → g.F.Medium.inorder l.flash)
    × (g.F.Medium.inorder l.initial.flash
    → g.F.Medium.means l.flash ≡ g.F.Medium.means l.initial.flash)
    × (g.F.Medium.inorder l.initial.flash
    → frames (g.F.Medium.means l.initial.flash) ≡ 15 * l.shape.groups
    → tail_left (g.F.Medium.means l.initial.flash) l.shape.pages (l.after + 1) 0
    ≡ ahead l.tail.items (tail_left (g.F.Medium.means l.initial.flash) l.shape.pages (l.after + 1) (length l.tail.items)))
    × (l.after + length l.tail.items ≤ 4000000000)
