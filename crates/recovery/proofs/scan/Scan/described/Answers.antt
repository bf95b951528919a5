use Rattle.std.proofs.Common.{map, ◌∙◌, arith}
use Rattle.format.specs.Segments.{all_said}
use Rattle.rules.specs.Recovery.{last_of}
use Rattle.recovery.proofs.Described.{tail_has}
use Rattle.recovery.proofs.scan.Scan.described.Goals as goal

pub returns-then-q-base : goal.returns-then-q-base
returns-then-q-base c =
    let x = c.args.self.now in
    let at = c.last-base.ensures.exact in
    c.copied.ensures
    ∙ tail_has x.shape.groups (map all_said x.segments.places.items) (last_of (all_said x.segments.newest))
    x.tail.items c.deref.result.now c.args.q c.last-base.result c.get.result (omega (arith, at)) c.get.ensures.lookup c.deref.ensures.0 at
