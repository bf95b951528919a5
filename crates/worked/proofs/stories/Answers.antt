use Rattle.worked.proofs.Telling.{told}
use Rattle.worked.proofs.stories.Goals as goal

pub returns : goal.returns
returns c = told
