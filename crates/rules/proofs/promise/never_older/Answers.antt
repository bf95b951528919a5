use Rattle.rules.proofs.Durability.{never_older}
use Rattle.rules.proofs.promise.never_older.Goals as goal

pub returns : goal.returns
returns c = never_older
