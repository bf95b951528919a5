use Rattle.std.proofs.Common.{take, drop, sym, ap, ap₂, ◌∙◌}
use Rattle.format.specs.Segments.{segment_at, ending_in}
use Rattle.format.proofs.Places.{segment_is}
use Rattle.format.proofs.segment.read_segment.Goals as goal

pub returns-clause-found : goal.returns-clause-found
returns-clause-found c =
    λ m is long.
    let p = c.args.pages in
    let j = c.args.place in
    let bs = c.args.page.now in
    let (whole, front, behind) = c.in_ok-entries.ensures in
    c.segment_at.ensures.found
    ∙ ap₂ (segment_at c.args.groups p j) front (c.read.ensures ∙ ap ending_in behind)
    ∙ ap (λ s. segment_at s p j (take 240 bs) (ending_in (drop 240 bs))) (sym is)
    ∙ sym (segment_is m p j bs long)
