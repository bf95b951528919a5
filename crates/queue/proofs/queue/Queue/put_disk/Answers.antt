use Rattle.rules.specs.Queue.{with_disk}
use Rattle.queue.specs.View.{view}
use Rattle.queue.proofs.queue.Queue.put_disk.Goals as goal

pub returns : goal.returns
returns g c = λ o. (
  record {
    media = record { flash = o.media.flash; disk = c.put.ensures.keeps o.media.disk };
    sized = o.sized;
  },
  c.put.ensures.gives o.media.disk (with_disk (view g.F.Medium g.D.Medium c.args.self.now)),
)
