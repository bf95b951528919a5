-- A power cycle is done in any state.
use Rattle.std.proofs.Common.{ℕ, Result}
use Rattle.medium.specs.Outcome.{Gives}
use Rattle.rules.specs.declared.fault.Fault.{Fault}
use Rattle.rules.specs.declared.state.State.{State}
use Rattle.rules.specs.declared.state.State.TheVariants as state
use Rattle.rules.specs.Store.{Store, Answer, cycle, by_state, power_cycle, step}

module _ (x : Store) (cf cd : ℕ) (r : Result Answer Fault) (z : Store) (g : Gives (cycle x cf cd) r z) where
  in_any : (t : State) → Gives (by_state t x (power_cycle cf cd)) r z
  in_any state.Up = g
  in_any state.Shut = g
  in_any state.Dark = g

  pub cycled_so : Gives (step x (power_cycle cf cd)) r z
  cycled_so = in_any x.state
