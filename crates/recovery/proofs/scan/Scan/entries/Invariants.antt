use Rattle.std.proofs.Common.{◌≡◌, ◌-◌, length, map}
use Rattle.format.specs.Segments.{all_said}
use Rattle.rules.specs.Recovery.{last_of, no_entries}
use Rattle.recovery.proofs.Gather.{filled}
use Rattle.recovery.proofs.scan.Scan.entries.Given as goal

abbrev pub invariant-loop-q : goal.invariant-loop-q
invariant-loop-q l =
    let s = l.self.shape.groups in
    let gs = map all_said l.self.segments.places.items in
    let b = last_of (all_said l.self.segments.newest) in
    let ts = l.self.tail.items in
    (length l.entries ≡ 210)
    × (filled s gs b ts no_entries (l.initial.q-end - l.initial.q) l.initial.q
    ≡ filled s gs b ts l.entries (l.initial.q-end - l.q) l.q)
