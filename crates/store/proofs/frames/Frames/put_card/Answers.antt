use Rattle.std.proofs.Common.{arith}
use Rattle.store.proofs.Slots.{card_put}
use Rattle.store.proofs.frames.Frames.put_card.Goals as goal

pub returns : goal.returns
returns c =
    let s = c.args.self.now in
    card_put s.count s.recency.order s.slots c.place.result c.args.frame c.place.ensures.value _ c.args.card (omega arith)
