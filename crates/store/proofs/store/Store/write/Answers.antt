use Rattle.rules.proofs.InRange.{versions_in_range}
use Rattle.rules.proofs.Promised.{each_call}
use Rattle.store.specs.View.{view}
use Rattle.store.proofs.store.Store.write.Goals as goal

pub returns-clause-stands : goal.returns-clause-stands
returns-clause-stands g c = λ o.
    λ b run.
    let x = view g.F.Medium g.D.Medium c.args.self.now in
    each_call _ _ _ _ (c.serve_write.ensures.does (versions_in_range x b run) o).1 b run
