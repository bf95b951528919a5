use Rattle.rules.proofs.Theorem.{every_run}
use Rattle.rules.proofs.promise.every_run.Goals as goal

pub returns : goal.returns
returns c = every_run
