use Rattle.std.proofs.Common.{◌+◌, sym, ap, ◌∙◌}
use Rattle.std.proofs.lemmas.Result.{err_from_is_err_and}
use Rattle.std.specs.Result.{result_ok}
use Rattle.rules.specs.declared.table.Card.{Card}
use Rattle.store.specs.View.{view, granted}
use Rattle.store.proofs.Taking.{is_next, brought, not_brought}
use Rattle.store.proofs.store.Store.bring.Goals as goal

pub returns-in_err-fetch : goal.returns-in_err-fetch
returns-in_err-fetch g c = λ o.
    let see = view g.F.Medium g.D.Medium in
    let (some, own) = is_next c.args.self.now.holds c.in_ok-number.number _ c.next_number.ensures.value c.in_ok-number.was in
    let (still, out) = c.in_ok-empty_frame.ensures.works o in
    let (kept, failed) = c.in_err-fetch.ensures.works still in
    let e = err_from_is_err_and c.from_residual-in_err-fetch.result c.from_residual-in_err-fetch.ensures.1 in
    rw (e.1, e.2) (
      kept,
      not_brought (see c.args.self.now) c.args.page c.in_ok-frame.frame c.card-evicted.result.page
          (sym (c.ok_or.ensures.ok_part ∙ ap result_ok c.in_ok-frame.was) ∙ c.last_free.ensures) some (ap (λ (k : Card). k.page) c.card-evicted.ensures)
          (see c.empty_frame.new.self) out (see c.fetch.new.self) c.in_err-fetch.field-0.0 failed,
    )

pub returns : goal.returns
returns g c = λ o.
    let see = view g.F.Medium g.D.Medium in
    let x = see c.args.self.now in
    let y = see c.empty_frame.new.self in
    let z = see c.fetch.new.self in
    let (some, own) = is_next c.args.self.now.holds c.in_ok-number.number _ c.next_number.ensures.value c.in_ok-number.was in
    let (still, out) = c.in_ok-empty_frame.ensures.works o in
    let (there, came) = c.in_ok-fetch.ensures.works still in
    let (kept, held) = c.hold_frame.ensures (own ∙ ap (λ n. n + 1) (sym (c.in_ok-fetch.ensures.holds ∙ c.in_ok-empty_frame.ensures.holds))) there in (
      kept,
      brought x c.args.page c.in_ok-frame.frame c.card-evicted.result.page (sym (c.ok_or.ensures.ok_part ∙ ap result_ok c.in_ok-frame.was) ∙ c.last_free.ensures)
          some (ap (λ (k : Card). k.page) c.card-evicted.ensures) y out z
          (see c.hold_frame.new.self) (granted c.hold_frame.result) came held,
    )
