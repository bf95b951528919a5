use Rattle.std.proofs.Common.{◌∙◌, inr}
use Rattle.rules.proofs.InRange.{still_in_range}
use Rattle.store.specs.View.{view}
use Rattle.store_use.proofs.Answered.{write_answered}
use Rattle.store_use.proofs.put.Goals as goal

-- After the take the version is in range, when it is written.
pub returns-clause-does : goal.returns-clause-does
returns-clause-does g c = λ o.
    λ b run.
    let see = view g.F.Medium g.D.Medium in
    let h = c.in_ok-hold.hold.grant in
    let y = see c.take.new.self in
    let w = see c.write-version.new.self in
    let (held, taken) = c.in_ok-hold.ensures.does o in
    let low = still_in_range (see c.args.store.now) y _ _ (c.in_ok-hold.ensures.stands o) b run in
    let (kept, did) = c.write-version.ensures.does low held in
    let (still, back) = c.give_back.ensures.does kept in
    let same =
    write_answered h.frame h.number c.write-version.result c.give_back.result (see c.give_back.new.self) y w
    c.args.offset c.args.bytes.now did back in
    inr (
      h,
      y,
      w,
      c.write-version.result,
      c.give_back.result,
      taken,
      (did, c.and.ensures ∙ same),
      back,
      c.and.ensures,
    )
