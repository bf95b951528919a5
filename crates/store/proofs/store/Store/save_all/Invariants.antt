use Rattle.std.proofs.Common.{◌-◌, ◌≤◌, Result}
use Rattle.medium.specs.Outcome.{Gives}
use Rattle.rules.specs.declared.fault.Fault.{Fault}
use Rattle.rules.specs.Store.{Store, Answer, save_all}
use Rattle.queue.specs.View as queue
use Rattle.store.specs.View.{view}
use Rattle.store.proofs.store.Store.save_all.Given as goal

-- What is left to save gives what the whole gives.
abbrev pub invariant-loop-number : goal.invariant-loop-number
invariant-loop-number g l =
    let see = view g.F.Medium g.D.Medium in
    (l.saved ≤ l.number)
    × (queue.InOrder g.F.Medium g.D.Medium l.initial.self.queue
    → queue.InOrder g.F.Medium g.D.Medium l.self.queue
    × ((r : Result Answer Fault) (z : Store) → Gives (save_all (l.count - l.number) (see l.self) l.number l.saved) r z
    → Gives (save_all l.count (see l.initial.self) 0 0) r z))
