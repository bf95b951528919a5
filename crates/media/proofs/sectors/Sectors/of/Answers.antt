use Rattle.std.proofs.Common.{◌*◌, ◌-◌, ◌<◌, length, drop, take, MatchOption, subst, arith, ap, ◌∙◌}
use Rattle.std.specs.Array.{IsFirstChunk}
use Rattle.std.proofs.lemmas.List.{take-take}
use Rattle.media.specs.Card.{sectors_of}
use Rattle.media.proofs.sectors.Sectors.of.Goals as goal

pub returns : goal.returns
returns c =
    let bs = c.args.bytes.now in
    let at = c.from-start.result * 272 in
    let rest = take (length bs - at) (drop at bs) in
    let chunk =
    subst (λ o. MatchOption o (length rest < 272) (λ y. IsFirstChunk rest y.now 272))
    c.unwrap.ensures c.first_chunk.ensures.cases in
    chunk.same ∙ take-take 272 (length bs - at) (drop at bs) (omega arith)
    ∙ ap (sectors_of bs) c.from-start.ensures
