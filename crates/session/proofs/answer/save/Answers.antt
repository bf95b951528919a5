use Rattle.std.proofs.Common.{rules}
use Rattle.session.proofs.Going.{put_on}
use Rattle.session.proofs.answer.save.Goals as goal

pub returns-clause-goes : goal.returns-clause-goes
returns-clause-goes g c = λ o b run. put_on _ _ _ _ _ _ (c.put-version.ensures.does o b run) b run

pub returns-clause-does : goal.returns-clause-does
returns-clause-does g c = λ o. (c.put-version.ensures.keeps o, λ b run. (c.put-version.result, c.put-version.ensures.does o b run, search rules))
