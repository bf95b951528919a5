use Rattle.std.proofs.Common.{◌≡◌, ◌<◌, length, sym, refl, ap, ◌∙◌, arith}
use Rattle.std.proofs.lemmas.List.FromFn.{fill_by_all}
use Rattle.std.proofs.lemmas.Bool.Decides.{not_from_Decides}
use Rattle.medium.specs.Rules.{readable, plainly, filled}
use Rattle.media.specs.Card.{content}
use Rattle.media.specs.Laws.Cards.{page_none, page_whole}
use Rattle.media.proofs.sectors.Sectors.copy_out.Goals as goal

pub returns-then-not-is_whole : goal.returns-then-not-is_whole
returns-then-not-is_whole c =
    let e = page_none c.args.self.now.bytes.now 0 (not_from_Decides _ c.if-not-is_whole.ensures refl) in
    record {
      answer = sym (ap (λ p. plainly (readable p)) e);
      buffer = sym (ap (λ p. filled c.args.into.now (readable p)) e);
    }

pub returns : goal.returns
returns c =
    let e = page_whole c.args.self.now.bytes.now 0 (c.if-not-is_whole.ensures.0 refl) in
    let len : length c.loop-at.into ≡ 256 = omega arith in
    let all =
    fill_by_all (content c.args.self.now.bytes.now 0) c.loop-at.into 256 0 len
    (λ k h. let l : k < c.loop-at.at = omega arith in c.loop-at.invariant k l) in
    record {
      answer = sym (ap (λ p. plainly (readable p)) e);
      buffer = all ∙ sym (ap (λ p. filled c.args.into.now (readable p)) e);
    }
