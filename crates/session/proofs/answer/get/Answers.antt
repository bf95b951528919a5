use Rattle.session.proofs.Going.{look_on}
use Rattle.session.proofs.answer.get.Goals as goal

pub returns-clause-goes : goal.returns-clause-goes
returns-clause-goes g c = λ o. look_on _ _ _ _ _ _ (c.look-version.ensures.does o)
