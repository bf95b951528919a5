use Rattle.std.proofs.Common.{◌≡◌, refl, ap, ◌∙◌, arith}
use Rattle.media.specs.Card.{put_sectors}
use Rattle.media.specs.Laws.Alone.{next_alone}
use Rattle.media.proofs.sectors.put.Goals as goal

pub loop-sector-init : goal.loop-sector-init
unfolding put_sectors
loop-sector-init c = refl

pub returns : goal.returns
returns c =
    let bs = c.args.bytes.now in
    let end : c.loop-sector.sector ≡ c.args.sectors = omega arith in
    c.loop-sector.invariant
    ∙ ap (λ n. put_sectors bs c.args.page c.free_tick-mark.result c.args.from.now n) end
    ∙ ap (λ t. put_sectors bs c.args.page t c.args.from.now c.args.sectors)
    (next_alone bs c.args.page c.of.result.bytes.now c.of.ensures c.free_tick-mark.result c.free_tick-mark.ensures)
