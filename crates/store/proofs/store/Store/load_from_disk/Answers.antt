use Rattle.std.proofs.Common.{Ok, sym, ap, ◌∙◌, arith}
use Rattle.store.specs.View.{view}
use Rattle.store.proofs.Fetching.{from_disk_given}
use Rattle.store.proofs.store.Store.load_from_disk.Goals as goal

pub returns-clause-works : goal.returns-clause-works
returns-clause-works g c = λ o.
    let x = view g.F.Medium g.D.Medium c.args.self.now in
    let (kept, same, found) = c.in_ok-bytes.ensures o in (
      kept,
      from_disk_given x c.args.frame c.args.page c.in-Some.bytes c.in-Some-read_trailer.trailer _
          (λ i. record { state = x.state; ram = c.fill-2.ensures i; queue = same i; holds = x.holds })
          c.disk_pages-pages.result (ap Ok (sym c.in-Some.is) ∙ found) (c.disk_pages-pages.ensures o.media)
          (omega arith) c.in-Some-read_trailer.ensures c.if-trailer-page.false,
    )
