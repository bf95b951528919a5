use Rattle.std.proofs.Common.{◌∙◌}
use Rattle.store.specs.View.{ram_of}
use Rattle.store.proofs.Free.{from_the_end}
use Rattle.store.proofs.frames.Frames.last_free.Goals as goal

pub returns : goal.returns
returns c =
    let m = ram_of c.args.self.now in
    c.last_free_of.ensures ∙ from_the_end m m.recency
