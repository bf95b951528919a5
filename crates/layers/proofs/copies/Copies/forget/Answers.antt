use Rattle.std.proofs.Common.{ap, not, nat_eq, rules}
use Rattle.arrayvec.proofs.ArrayVecLemmas.{filter-from_retain}
use Rattle.layers.specs.Copies.{listed}
use Rattle.layers.proofs.copies.Copies.forget.Goals as goal

pub returns : goal.returns
returns c =
    ap listed
    (filter-from_retain _ (λ sheet. not (nat_eq sheet.page c.args.page)) _
    (λ x b f' y called. search rules) _ _ c.retain.ensures.filtered)
