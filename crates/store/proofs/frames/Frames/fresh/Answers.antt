use Rattle.std.proofs.Common.{ap}
use Rattle.rules.specs.Ram.{no_cards, no_bodies}
use Rattle.store.proofs.frames.Frames.fresh.Goals as goal

pub returns : goal.returns
unfolding no_cards no_bodies
returns c =
    ap (λ order. record { count = c.args.count; cards = no_cards; bodies = no_bodies; recency = order })
    c.new.ensures
