use Rattle.std.proofs.Common.{◌≡◌, ◌-◌, ◌/◌, ◌%◌, ap₂, ◌∙◌, arith, rules}
use Rattle.recovery.proofs.Described.{group_in, seat_is}
use Rattle.recovery.proofs.scan.Segments.trailer_of.Goals as goal

pub returns : goal.returns
returns c =
    let q = c.args.q in
    let before : c.saturating_sub-before.result ≡ q - 1 = omega arith in
    seat_is c.args.shape.groups c.args.self.now.places.items q (c.saturating_sub-before.result / 15 % c.from.result) _ c.in_ok-segment.segment.now
    (ap₂ (λ n s. n / 15 % s) before (c.from.ensures ∙ c.segment_pages.ensures))
    (search rules)
    (group_in c.in_ok-segment.segment.now q c.saturating_sub-before.result _ before (omega arith) (omega arith))
