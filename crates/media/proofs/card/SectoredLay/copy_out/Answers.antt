use Rattle.std.proofs.Common.{ap, ◌∙◌}
use Rattle.medium.specs.Rules.{readable, plainly, filled}
use Rattle.media.specs.Laws.Alone.{page_alone}
use Rattle.media.proofs.card.SectoredLay.copy_out.Goals as goal

pub returns : goal.returns
returns c =
    let e = page_alone c.args.bytes.now c.args.page c.of.result.bytes.now c.of.ensures in
    record {
      answer = c.copy_out.ensures.answer ∙ ap (λ p. plainly (readable p)) e;
      buffer = c.copy_out.ensures.buffer ∙ ap (λ p. filled c.args.into.now (readable p)) e;
    }
