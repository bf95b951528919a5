use Rattle.std.proofs.Common.{Ok, Err, sym, subst}
use Rattle.std.proofs.lemmas.Result.{err_from_is_err_and}
use Rattle.medium.specs.Outcome.{Gives}
use Rattle.rules.specs.Queue.{Queue as RulesQueue}
use Rattle.rules.specs.Recovery.{recover}
use Rattle.queue.specs.Back.{describes}
use Rattle.queue.specs.View.{view}
use Rattle.queue.proofs.Recovering.{not_read, recovered, not_described}
use Rattle.queue.proofs.queue.Queue.recover.Goals as goal

pub returns-in_err-back : goal.returns-in_err-back
returns-in_err-back g c = λ o.
    let x = view g.F.Medium g.D.Medium c.args.self.now in
    let (kept, same, read) = c.in_err-back.ensures.found o in
    let e = err_from_is_err_and c.from_residual.result c.from_residual.ensures.1 in
    rw (e.1, e.2) (
      kept,
      subst (λ (z : RulesQueue). Gives (recover x) (Err c.in_err-back.field-0.0) z) (sym same)
          (not_read x c.in_err-back.field-0.0 read),
    )

pub returns-in_err-describe_tail : goal.returns-in_err-describe_tail
returns-in_err-describe_tail g c = λ o.
    let see = view g.F.Medium g.D.Medium in
    let x = see c.args.self.now in
    let b = c.in_ok-back.back in
    let (still, same, read) = c.in_ok-back.ensures.found o in
    let (kept, failed) = c.in_err-describe_tail.ensures still in
    let f = c.in_err-describe_tail.field-0.0 in
    let z = see c.describe_tail.new.self in
    let e =
    err_from_is_err_and c.from_residual-in_err-describe_tail.result
    c.from_residual-in_err-describe_tail.ensures.1 in
    rw (e.1, e.2) (
      kept,
      not_described x b read f z
          (subst (λ (y : RulesQueue). Gives (describes y b) (Err f) z) same failed),
    )

pub returns : goal.returns
returns g c = λ o.
    let see = view g.F.Medium g.D.Medium in
    let x = see c.args.self.now in
    let b = c.in_ok-back.back in
    let (still, same, read) = c.in_ok-back.ensures.found o in
    let (there, put) = c.in_ok-describe_tail.ensures still in
    let (kept, is) = c.adopt.ensures there in
    let z = see c.describe_tail.new.self in (
      kept,
      subst (λ (w : RulesQueue). Gives (recover x) (Ok b.found) w) (sym is)
          (recovered x b read z (subst (λ (y : RulesQueue). Gives (describes y b) (Ok tt) z) same put)),
    )
