use Rattle.std.proofs.Common.{◌≡◌, ℕ, refl, rules, tests}
use Rattle.std.proofs.lemmas.Iterator.{cases_from_any, YieldsList-from_range}
use Rattle.media.specs.Card.{tick}
use Rattle.media.proofs.Ranges.{any_of_range}
use Rattle.media.proofs.sectors.Sectors.carries.Goals as goal

pub returns : goal.returns
returns c =
    let carries : ℕ → Type 0 = λ s. tick c.args.self.now.bytes.now 0 s ≡ c.args.mark in
    any_of_range carries 16 c.any.result
    (cases_from_any _ _ _ carries (λ s. carries s → ⊥) c.any.ensures.ran
    (YieldsList-from_range 0 16 16 refl refl) (λ x q k. search (rules, tests)) (λ x q k. search (rules, tests)))
