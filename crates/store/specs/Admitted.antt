-- What state and call decide: dark, shut, up, or that the call goes on.
use Rattle.std.specs.Prelude.{Ok, Err, Result}
use Rattle.rules.specs.declared.fault.Fault.{Fault}
use Rattle.rules.specs.declared.fault.Refusal.TheVariants as refusal
use Rattle.rules.specs.declared.state.State.{State}
use Rattle.rules.specs.declared.state.State.TheVariants as state
use Rattle.rules.specs.Refusals.{plain}

-- A mount.
abbrev pub mounts : State → Result (Unit {0}) Fault
mounts state.Dark = Err (plain refusal.Dark)
mounts state.Shut = Ok tt
mounts state.Up = Err (plain refusal.Up)

-- The other calls, but a power cycle.
abbrev pub serves : State → Result (Unit {0}) Fault
serves state.Dark = Err (plain refusal.Dark)
serves state.Shut = Err (plain refusal.Shut)
serves state.Up = Ok tt
