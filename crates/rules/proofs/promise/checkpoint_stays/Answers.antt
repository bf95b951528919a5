use Rattle.rules.proofs.Durability.{checkpoint_stays}
use Rattle.rules.proofs.promise.checkpoint_stays.Goals as goal

pub returns : goal.returns
returns c = checkpoint_stays
