use Rattle.store.proofs.Numbers.{are_all}
use Rattle.store.proofs.frame.Frame.all.Goals as goal

pub returns : goal.returns
returns c =
    are_all c.from_fn.result c.from_fn.ensures.items.long
    (λ k d lt. let (p, q, made) = c.from_fn.ensures.items.at k d lt in made.met)
