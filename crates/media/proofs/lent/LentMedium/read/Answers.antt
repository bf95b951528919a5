use Rattle.std.proofs.Common.{length, refl, ap, ◌∙◌}
use Rattle.medium.specs.Rules.{plainly, filled}
use Rattle.media.specs.Ends.{of_lent}
use Rattle.media.proofs.Lending.{reads_is}
use Rattle.media.proofs.lent.LentMedium.read.Goals as goal

pub returns : goal.returns
returns g c =
    let into = c.args.into.now in
    let found = reads_is g.L.Lay.coding (of_lent c.args.self.now) c.args.page (length into) in
    record {
      keeps = λ _. tt;
      answer = λ _. c.fetch.ensures.answer ∙ ap plainly found;
      buffer = λ _. c.fetch.ensures.buffer ∙ ap (filled into) found;
      same = λ _. refl;
      exact = refl;
      lender = refl;
    }
