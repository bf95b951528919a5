use Rattle.std.proofs.Common.{◌∙◌}
use Rattle.rules.specs.Ram.{with_frame}
use Rattle.store.specs.View.{ram_of}
use Rattle.store.proofs.Slots.{slot_put}
use Rattle.store.proofs.frames.Frames.fill.Goals as goal

pub returns : goal.returns
returns c =
    let s = c.args.self.now in
    slot_put s.count s.recency.order s.slots c.place.result c.args.frame c.place.ensures.value c.fetched.result
    ∙ (λ i. with_frame (ram_of s) c.args.frame (c.fetched.ensures.card i) (c.fetched.ensures.body i))
