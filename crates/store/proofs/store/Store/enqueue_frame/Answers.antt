use Rattle.std.proofs.Common.{sym, ap, ◌∙◌, subst}
use Rattle.medium.specs.Outcome.{Gives}
use Rattle.rules.specs.Store.{Store, enqueue_frame}
use Rattle.store.specs.Parts.{state_after}
use Rattle.store.specs.View.{view, ram_of}
use Rattle.store.proofs.Leaving.{enqueued_so}
use Rattle.store.proofs.store.Store.enqueue_frame.Goals as goal

pub returns-clause-works : goal.returns-clause-works
returns-clause-works g c = λ o.
    let see = view g.F.Medium g.D.Medium in
    let x = see c.args.self.now in
    let f = c.args.frame in
    let p = c.args.page in
    let on = c.heard.new.on in
    let r = c.hand_over-answer.result in
    let y = (see c.hand_over-answer.new.self).queue in
    let rest = c.hand_over-answer.ensures.rest in
    let (kept, put) = c.hand_over-answer.ensures.queued o in (
      kept,
      subst (λ (z : Store). Gives (enqueue_frame x f p) c.heard.result z)
          (λ i. record { state = on; ram = ram_of (sym rest.frames i); queue = y; holds = sym rest.holds i })
          (enqueued_so x f p y r c.heard.result on put c.heard.ensures.value
          (c.heard.ensures.after ∙ ap (state_after r) rest.state)),
    )
