use Rattle.std.proofs.Common.{sym, ◌∙◌, subst}
use Rattle.store.specs.Order.{Once}
use Rattle.store.proofs.Orders.{is_found, raised, once_moved}
use Rattle.store.proofs.recency.Recency.to_head.Goals as goal

pub invariant_of-self : goal.invariant_of-self
invariant_of-self c =
    let f = c.number.result in
    let xs = c.args.self.now.order in
    let once = c.args.self.now.once in
    let lt = c.number.ensures.within in
    let found = sym c.place_of.ensures ∙ c.in-Some.is in
    record {
      once = subst Once (sym (raised f xs once lt c.in-Some.place _ found c.rotate_right.ensures.after)) (once_moved f xs once);
    }

pub returns-in-Some : goal.returns-in-Some
returns-in-Some c =
    let xs = c.args.self.now.order in
    rw (← c.number.ensures.value)
    (raised c.number.result xs c.args.self.now.once c.number.ensures.within c.in-Some.place _
    (sym c.place_of.ensures ∙ c.in-Some.is) c.rotate_right.ensures.after)

pub returns-in_default : goal.returns-in_default
returns-in_default c =
    absurd
    (is_found c.number.result c.args.self.now.order c.args.self.now.once c.number.ensures.within
    (sym c.place_of.ensures ∙ c.in_default.is))
