use Rattle.std.proofs.Common.{◌≡◌, ap, ◌∙◌, arith}
use Rattle.rules.specs.Ram.{card_at, body_at, with_frame, changed, put}
use Rattle.store.specs.View.{ram_of}
use Rattle.store.proofs.Slots.{own_card, own_body, slot_put}
use Rattle.store.proofs.frames.Frames.change.Goals as goal

pub returns : goal.returns
returns c =
    let s = c.args.self.now in
    let m = ram_of s in
    let f = c.args.frame in
    let is = c.place.ensures.value in
    let card : c.change.new.self.card ≡ changed (card_at m f) =
    c.change.ensures.card ∙ ap changed (own_card s.count s.recency.order s.slots c.place.result f is _ (omega arith)) in
    let body : c.change.new.self.body ≡ put (body_at m f) c.args.offset c.args.bytes.now =
    c.change.ensures.body
    ∙ ap (λ b. put b c.args.offset c.args.bytes.now)
    (own_body s.count s.recency.order s.slots c.place.result f is _ (omega arith)) in
    slot_put s.count s.recency.order s.slots c.place.result f is _ ∙ (λ i. with_frame m f (card i) (body i))
