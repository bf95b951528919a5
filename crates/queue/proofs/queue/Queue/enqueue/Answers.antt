use Rattle.std.proofs.Common.{refl, arith}
use Rattle.queue.specs.View.{view}
use Rattle.queue.proofs.Joining.{enqueue_given}
use Rattle.queue.proofs.queue.Queue.enqueue.Goals as goal

pub returns : goal.returns
returns g c = λ o.
    let see = view g.F.Medium g.D.Medium in
    let made = c.in_ok-back.ensures in
    let (still, room) = made.room o in
    let (kept, put) = c.append.ensures still in (
      kept,
      enqueue_given (see c.args.self.now) (see c.superseded.new.self) (see c.append.new.self) _
          c.args.body.now c.append.result (omega arith) refl made.back room put,
    )
