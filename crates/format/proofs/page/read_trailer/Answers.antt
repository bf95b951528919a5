use Rattle.std.proofs.Common.{ap, ◌∙◌}
use Rattle.rules.specs.Format.{proper}
use Rattle.format.proofs.Places.{proper_behind}
use Rattle.format.proofs.page.read_trailer.Goals as goal

pub returns : goal.returns
returns c =
    let p = c.args.pages in
    let (whole, front, behind) = c.in_ok-last.ensures in
    rw whole (c.trailer_in.ensures ∙ ap (λ bs. proper p bs 0) behind ∙ proper_behind p c.args.page.now 240)
