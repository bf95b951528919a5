use Rattle.rules.proofs.Promised.{each_call}
use Rattle.rules.proofs.promise.each_call.Goals as goal

pub returns : goal.returns
returns c = each_call
