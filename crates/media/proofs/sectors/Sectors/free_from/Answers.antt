use Rattle.std.proofs.Common.{rules, tests}
use Rattle.std.proofs.lemmas.Iterator.{first_from_Range}
use Rattle.media.specs.Card.{Carried}
use Rattle.media.proofs.sectors.Sectors.free_from.Goals as goal

pub returns : goal.returns
returns c =
    let bs = c.args.self.now.bytes.now in
    first_from_Range _ _ _ c.find.result (λ t. Carried bs 0 t → ⊥) (Carried bs 0) c.find.ensures.ran
    (λ x q k. search (rules, tests)) (λ x q k. search (rules, tests))
