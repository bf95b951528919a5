use Rattle.rules.proofs.Durability.{always_ready}
use Rattle.rules.proofs.promise.always_ready.Goals as goal

pub returns : goal.returns
returns c = always_ready
