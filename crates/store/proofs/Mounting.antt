-- What a mount gives, by what the recovery gives.
use Rattle.std.proofs.Common.{◌≡◌, ℕ, Bool, true, cond, [], Ok, Err, Result, sym, refl, ap, subst}
use Rattle.medium.specs.Outcome.{Outcome, Gives, done}
use Rattle.rules.specs.declared.fault.Fault.{Fault}
use Rattle.rules.specs.declared.fault.Refusal.TheVariants as refusal
use Rattle.rules.specs.declared.state.Mounted.{Mounted}
use Rattle.rules.specs.declared.state.State.{State}
use Rattle.rules.specs.declared.state.State.TheVariants as state
use Rattle.rules.specs.Queue.{Queue}
use Rattle.rules.specs.Ram.{Ram, fresh}
use Rattle.rules.specs.Recovery.{recover}
use Rattle.rules.specs.Steps.{then_do}
use Rattle.rules.specs.Store.{Store, Answer, on_queue, mount_shut, mounted, raised, fits, refuse}
use Rattle.rules.proofs.Given.{then_gives, stops_gives}
use Rattle.store.specs.Parts.{state_after}
use Rattle.store.proofs.Hearing.{turned, queue_gives}
use Rattle.store.proofs.Strikes.{of_recover}

module _ (x : Store) (b : ℕ) (fit : true ≡ fits b x.queue.flash x.queue.disk) (y : Queue) (r s : Result Mounted Fault)
    (t : State) (g : Gives (recover x.queue) r y) (same : s ≡ r) (so : t ≡ state_after r x.state) where
  abbrev up : Mounted → Store → Outcome Fault Store Answer
  up a z = done (mounted a) (raised b z) []

  -- What is heard of the recovery.
  heard_so : Gives (on_queue x (recover x.queue)) s (turned x t y)
  heard_so =
      subst (λ (q : Result Mounted Fault). Gives (on_queue x (recover x.queue)) q (turned x t y)) (sym same)
      (subst (λ (u : State). Gives (on_queue x (recover x.queue)) r (turned x u y)) (sym so)
      (queue_gives x (recover x.queue) r y (of_recover x.queue) g))

  fitting : (q : Result Answer Fault) (z : Store) → Gives (then_do (on_queue x (recover x.queue)) up) q z
      → Gives (mount_shut x b) q z
  fitting q z h =
      subst (λ (f : Bool). Gives (cond f (then_do (on_queue x (recover x.queue)) up) (refuse refusal.Size x)) q z) fit h

  pub mount_failed : (e : Fault) → s ≡ Err e → Gives (mount_shut x b) (Err e) (turned x t y)
  mount_failed e is =
      fitting (Err e) (turned x t y)
      (stops_gives up (on_queue x (recover x.queue)) e (turned x t y)
      (subst (λ (q : Result Mounted Fault). Gives (on_queue x (recover x.queue)) q (turned x t y)) is heard_so))

  pub mount_done : (a : Mounted) (m : Ram) → s ≡ Ok a → m ≡ fresh b
      → Gives (mount_shut x b) (Ok (mounted a)) (record { state = state.Up; ram = m; queue = y; holds = x.holds })
  mount_done a m is new =
      let z : Store = record { state = state.Up; ram = m; queue = y; holds = x.holds } in
      fitting (Ok (mounted a)) z
      (then_gives up (on_queue x (recover x.queue)) a (turned x t y)
      (subst (λ (q : Result Mounted Fault). Gives (on_queue x (recover x.queue)) q (turned x t y)) is heard_so)
      (Ok (mounted a)) z
      (refl, ap (λ (n : Ram). record { state = state.Up; ram = n; queue = y; holds = x.holds }) new))
