use Rattle.std.proofs.lemmas.Result.{err_from_is_err_and}
use Rattle.store.specs.View.{view}
use Rattle.store.proofs.Saving.{save_failed}
use Rattle.store.proofs.store.Store.save.Goals as goal

pub returns-in_err-enqueue_frame : goal.returns-in_err-enqueue_frame
returns-in_err-enqueue_frame g c = λ o.
    let see = view g.F.Medium g.D.Medium in
    let (kept, failed) = c.in_err-enqueue_frame.ensures.works o in
    let e = err_from_is_err_and c.from_residual.result c.from_residual.ensures.1 in
    rw (e.1, e.2) (
      kept,
      save_failed (see c.args.self.now) (see c.enqueue_frame.new.self) c.args.frame c.in-Some.page
          c.card.result c.in_err-enqueue_frame.field-0.0 c.card.ensures c.in-Some.is failed,
    )
