use Rattle.std.proofs.Common.{◌≡◌}
use Rattle.media.specs.Card.{put_sectors}
use Rattle.media.proofs.sectors.put.Given as goal

abbrev pub invariant-loop-sector : goal.invariant-loop-sector
invariant-loop-sector l = l.bytes ≡ put_sectors l.initial.bytes l.page l.mark l.from l.sector
