use Rattle.store.specs.View.{view}
use Rattle.store.proofs.Fetching.{fetched_so}
use Rattle.store.proofs.store.Store.fetch.Goals as goal

pub returns-clause-works : goal.returns-clause-works
returns-clause-works g c = λ o.
    let see = view g.F.Medium g.D.Medium in
    let (kept, did) = c.load-answer.ensures.works o in (
      kept,
      fetched_so (see c.args.self.now) c.args.frame c.args.page (see c.load-answer.new.self)
          c.load-answer.result c.heard.result c.heard.new.on did c.heard.ensures.value
          c.heard.ensures.after,
    )
