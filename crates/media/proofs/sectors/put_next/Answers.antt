use Rattle.std.proofs.Common.{◌≡◌, ◌+◌, ◌-◌, ◌*◌, ◌∙◌, add-one, refl, arith}
use Rattle.media.specs.Card.{put_sectors}
use Rattle.media.proofs.sectors.put_next.Goals as goal

pub returns : goal.returns
unfolding put_sectors
returns c = λ before h.
    let n = c.args.sector in
    let e : n * 16 + 16 - n * 16 ≡ 16 = omega arith in
    rw add-one
    (c.put_at.ensures ∙ rw (c.from.ensures, h, e) refl)
