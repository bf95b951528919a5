use Rattle.store.proofs.Orders.{all_once}
use Rattle.store.proofs.recency.Recency.new.Goals as goal

pub invariant_of-result : goal.invariant_of-result
invariant_of-result c = record { once = all_once c.all.result c.all.ensures }
