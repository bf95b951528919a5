use Rattle.std.proofs.Common.{◌≡◌, true, rules}
use Rattle.std.proofs.lemmas.Result.{err_from_is_err_and}
use Rattle.queue.specs.View as queue
use Rattle.rules.specs.Store.{fits}
use Rattle.store.specs.View.{view, ram_of}
use Rattle.store.proofs.Mounting.{mount_failed, mount_done}
use Rattle.store.proofs.store.Store.mount_shut.Goals as goal

pub returns : goal.returns
returns g c = λ shut rel.
    let x = view g.F.Medium g.D.Medium c.args.self.now in
    let fitting : true ≡ fits c.args.frames x.queue.flash x.queue.disk = search rules in
    let o : queue.InOrder g.F.Medium g.D.Medium c.args.self.now.queue = search rules in
    let (kept, did) = c.recover.ensures o in (
      record { media = kept.media; sized = λ up. kept.sized },
      mount_done x c.args.frames fitting _ c.recover.result c.heard.result c.heard.new.on did c.heard.ensures.value
          c.heard.ensures.after c.in_ok-found.found (ram_of c.fresh-self.result) c.in_ok-found.was c.fresh-self.ensures,
    )

pub returns-in_err-found : goal.returns-in_err-found
returns-in_err-found g c = λ shut rel.
    let x = view g.F.Medium g.D.Medium c.args.self.now in
    let fitting : true ≡ fits c.args.frames x.queue.flash x.queue.disk = search rules in
    let o : queue.InOrder g.F.Medium g.D.Medium c.args.self.now.queue = search rules in
    let (kept, did) = c.recover.ensures o in
    let e = err_from_is_err_and c.from_residual.result c.from_residual.ensures.1 in
    rw (e.1, e.2) (
      record { media = kept.media; sized = λ up. kept.sized },
      mount_failed x c.args.frames fitting _ c.recover.result c.heard.result c.heard.new.on did c.heard.ensures.value
          c.heard.ensures.after c.in_err-found.field-0.0 c.in_err-found.was,
    )
