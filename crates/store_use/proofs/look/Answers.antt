use Rattle.std.proofs.Common.{◌∙◌, inr, length}
use Rattle.store.specs.View.{view}
use Rattle.store_use.proofs.Answered.{read_answered}
use Rattle.store_use.proofs.look.Goals as goal

pub returns-clause-does : goal.returns-clause-does
returns-clause-does g c = λ o.
    let see = view g.F.Medium g.D.Medium in
    let h = c.in_ok-hold.hold.grant in
    let y = see c.take.new.self in
    let w = see c.read-version.new.self in
    let (held, taken) = c.in_ok-hold.ensures.does o in
    let (kept, did) = c.read-version.ensures.does held in
    let (still, back) = c.give_back.ensures.does kept in
    let same =
    read_answered h.frame h.number c.read-version.result c.give_back.result (see c.give_back.new.self) y w
    (length c.args.into.now) c.read-version.new.into did back in
    inr (
      h,
      y,
      w,
      c.read-version.result,
      c.give_back.result,
      taken,
      (did, c.and.ensures ∙ same),
      back,
      c.and.ensures,
    )
