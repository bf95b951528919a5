use Rattle.std.proofs.Common.{◌≡◌, ℕ, Ok, arith}
use Rattle.medium.specs.Outcome.{Gives}
use Rattle.rules.specs.Store.{cycled, power_cycle, step}
use Rattle.rules.proofs.Promised.{each_call}
use Rattle.store.specs.View.{view, InOrder}
use Rattle.store.proofs.Cycling.{cycled_so}
use Rattle.store.proofs.store.Store.power_cycle.Goals as goal

pub returns : goal.returns
returns g c =
    let see = view g.F.Medium g.D.Medium in
    let x = see c.args.self.now in
    let z = see c.cycle.new.self in
    let call = power_cycle c.args.flash_charge c.args.disk_charge in
    let gives : InOrder g.F.Medium g.D.Medium c.args.self.now → Gives (step x call) (Ok cycled) z =
    λ o. cycled_so x c.args.flash_charge c.args.disk_charge (Ok cycled) z (c.cycle.ensures o.media).2 in
    record {
      does = λ o.
          let (kept, shut, did) = c.cycle.ensures o.media in
          (record { media = kept; sized = λ up. let n : ◌≡◌ {A = ℕ} 0 1 = cc in absurd (omega arith) }, gives o);
      stands = λ o. each_call x call (Ok cycled) z (gives o);
    }
