use Rattle.std.proofs.Common.{◌≡◌, refl, ◌∙◌, rules, tests}
use Rattle.std.proofs.lemmas.Iterator.{cases_from_all, YieldsList-from_range}
use Rattle.media.specs.Card.{tick}
use Rattle.media.proofs.Ranges.{all_of_range}
use Rattle.media.proofs.sectors.Sectors.is_whole.Goals as goal

pub returns-then-first-ne0 : goal.returns-then-first-ne0
returns-then-first-ne0 c =
    let bs = c.args.self.now.bytes.now in
    let level =
    all_of_range (λ s. tick bs 0 s ≡ tick bs 0 0) 16 c.all.result
    (cases_from_all _ _ _ (λ s. tick bs 0 s ≡ tick bs 0 0) (λ s. tick bs 0 s ≡ tick bs 0 0 → ⊥) c.all.ensures.ran
    (YieldsList-from_range 0 16 16 refl refl) (λ x q k. search (rules, tests)) (λ x q k. search (rules, tests))) in (
      λ e. (λ z. c.if-first-ne0.true (c.tick-first.ensures ∙ z), level.0 e),
      λ w. level.1 w.1,
    )
