use Rattle.media.specs.Ends.{of_lent}
use Rattle.media.proofs.Lending.{store_gives}
use Rattle.media.proofs.lent.LentMedium.write.Goals as goal

pub returns : goal.returns
returns g c = record {
  keeps = λ _. tt;
  gives = λ _.
      store_gives g.L.Lay.coding g.met.L.Lay.shows (of_lent c.args.self.now) c.args.page c.args.from.now
      c.store.result (of_lent c.store.new.self) c.store.ensures.exact;
  exact = c.store.ensures.exact;
  lender = c.store.ensures.lender;
}
