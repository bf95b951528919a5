-- Parts of the rules that functions of their own do.
use Rattle.std.specs.Prelude.{ℕ, ◌+◌, ◌-◌, ◌*◌, ◌/◌, Bool, cond, ◌&&◌, None, Ok, Err, Result, ◌==◌, nat_le}
use Rattle.rules.specs.declared.fault.Fault.{Fault}
use Rattle.rules.specs.declared.state.State.{State}
use Rattle.rules.specs.declared.state.State.TheVariants as state
use Rattle.rules.specs.Queue.{valid}
use Rattle.rules.specs.Refusals.{is_dark}
use Rattle.rules.specs.Ram.{card_at}
use Rattle.rules.specs.Store.{Store, Way, from_valid, save}

-- The state after an answer of a medium, or of the queue: dark once that was dark.
abbrev pub state_after : {A : Type 0} → Result A Fault → State → State
state_after (Ok a) t = t
state_after (Err e) t = cond (is_dark e.cause) state.Dark t

-- Page p into frame f, with no entry, and as its valid entry says; before a dark medium makes the store dark.
abbrev pub disk_page : Store → ℕ → ℕ → Way
disk_page x f p = from_valid x f p None

abbrev pub from_media : Store → ℕ → ℕ → Way
from_media x f p = from_valid x f p (valid x.queue p)

-- One frame of a checkpoint.
abbrev pub save_frame : Store → ℕ → Way
save_frame x f = save x f (card_at x.ram f).page

-- b frames, a flash of n pages and a disk of k pages are the sizes of a store: `fits` by the sizes alone.
abbrev pub fit : ℕ → ℕ → ℕ → Bool
fit b n k =
    nat_le 1 b
    && (nat_le b 16
    && (n == 16 * ((n - 1) / 16) + 1
    && (nat_le 2 ((n - 1) / 16)
    && (nat_le ((n - 1) / 16) 14
    && (nat_le 1 k
    && nat_le k 240)))))
