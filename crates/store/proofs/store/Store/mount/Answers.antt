use Rattle.rules.proofs.Promised.{each_call}
use Rattle.store.proofs.store.Store.mount.Goals as goal

pub returns-clause-stands : goal.returns-clause-stands
returns-clause-stands g c = λ o. each_call _ _ _ _ (c.serve_mount.ensures o).1
