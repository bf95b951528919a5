use Rattle.std.proofs.Common.{sym, ◌∙◌}
use Rattle.media.specs.Laws.Pages.{length_pages}
use Rattle.media.proofs.lent.LentMedium.size.Goals as goal

pub returns : goal.returns
returns g c = record {
  value = λ _. c.pages.ensures ∙ sym (length_pages g.L.Lay.coding c.args.self.now.bytes.now);
}
