use Rattle.queue.specs.View.{view}
use Rattle.queue.proofs.Joining.{append_given}
use Rattle.queue.proofs.queue.Queue.append.Goals as goal

pub returns : goal.returns
returns g c = λ o.
    let see = view g.F.Medium g.D.Medium in
    let (still, put) = c.in_ok-put_frame.ensures o in
    let (entered, is) = c.enter.ensures still in
    let (kept, due) = c.describe_due.ensures entered in (
      kept,
      append_given (see c.args.self.now) (see c.put_frame.new.self) (see c.enter.new.self)
          (see c.describe_due.new.self) c.args.trailer.now c.args.body.now c.describe_due.result put
          is due,
    )
