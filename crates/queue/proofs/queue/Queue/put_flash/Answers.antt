use Rattle.rules.specs.Queue.{with_flash}
use Rattle.queue.specs.View.{view}
use Rattle.queue.proofs.Joining.{sized_still}
use Rattle.queue.proofs.queue.Queue.put_flash.Goals as goal

pub returns : goal.returns
returns g c = λ o. (
  record {
    media = record { flash = c.put.ensures.keeps o.media.flash; disk = o.media.disk };
    sized = sized_still _ _ (c.put.ensures.sized o.media.flash) o.sized;
  },
  c.put.ensures.gives o.media.flash (with_flash (view g.F.Medium g.D.Medium c.args.self.now)),
)
