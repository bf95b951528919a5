use Rattle.std.proofs.Common.{◌≡◌, ℕ, sym, refl, ap, ◌∙◌, subst, arith}
use Rattle.rules.specs.Book.{opened}
use Rattle.rules.specs.Promise.{Run, begun}
use Rattle.rules.specs.Store.{Store as RulesStore}
use Rattle.queue.specs.View as queue
use Rattle.store.specs.View.{first}
use Rattle.store.proofs.store.Store.new.Goals as goal

pub returns : goal.returns
returns g c =
    let fl = g.F.Medium.means c.args.flash in
    let di = g.D.Medium.means c.args.disk in
    let made : _ ≡ first (queue.unused fl di) = c.unused.ensures.made ∙ ap first c.new.ensures.made in
    record {
      made = made;
      order = λ f d.
          record {
            media = subst (queue.Reliable g.F.Medium g.D.Medium) (sym c.unused.ensures.same) (c.new.ensures.keeps f d);
            sized = λ up.
                let shut = ap (λ (x : RulesStore). x.state) made in
                let n : ◌≡◌ {A = ℕ} 0 1 = cc in absurd (omega arith);
          };
      begins = λ blank-flash blank-disk fit.
          subst (λ (x : RulesStore). Run x opened) (sym made)
          (begun
          (record {
            shut_yet = refl;
            unused = refl;
            fitting = fit;
            flash_blank = blank-flash;
            disk_blank = blank-disk;
          }));
    }
