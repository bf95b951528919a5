-- What a store is to the rules, and how its functions are said to do what the rules give.
use Rattle.std.specs.Prelude.{◌≡◌, ℕ, ◌≤◌, map, Ok, Err, Result}
use Rattle.medium.specs.declared.Medium.{Ghosts}
use Rattle.medium.specs.Outcome.{Outcome, Gives}
use Rattle.rules.specs.declared.fault.Fault.{Fault}
use Rattle.rules.specs.declared.state.State.TheVariants as state
use Rattle.rules.specs.Book.{Book}
use Rattle.rules.specs.Promise.{Promise, Run}
use Rattle.rules.specs.Queue.{Queue as RulesQueue}
use Rattle.rules.specs.Ram.{Ram, fresh, card_at}
use Rattle.rules.specs.Store.{Store as RulesStore, Call, Answer, step, mount_shut, took}
use Rattle.queue.specs.View as queue
use Rattle.store.specs.declared.frames.Frames.{Frames}
use Rattle.store.specs.declared.hold.Hold.{Hold}
use Rattle.store.specs.declared.slot.Slot.{Slot}
use Rattle.store.specs.declared.store.Store.{Store}

abbrev pub ram_of : Frames → Ram
ram_of s =
    record {
      count = s.count;
      cards = map (λ (x : Slot). x.card) s.slots;
      bodies = map (λ (x : Slot). x.body) s.slots;
      recency = s.recency.order;
    }

-- RAM is then as a rule makes it.
abbrev pub Goes : Frames → Frames → (Ram → Ram) → Type 0
Goes s t rule = ram_of t ≡ rule (ram_of s)

-- An answer of the code as an answer of the rules.
abbrev pub answered : {A : Type 0} → (A → Answer) → Result A Fault → Result Answer Fault
answered say (Ok a) = Ok (say a)
answered say (Err e) = Err e

-- A store over a queue before its first call.
abbrev pub first : RulesQueue → RulesStore
first y = record { state = state.Shut; ram = fresh 0; queue = y; holds = 0 }

-- What a take grants.
abbrev pub granted : Hold → Answer
granted h = took h.grant

-- In service no version in RAM is above the highest. Every run keeps it so.
abbrev pub InRange : {F D : Type 0} → Store F D → Type 0
InRange s = s.state ≡ state.Up → (f : ℕ) → (card_at (ram_of s.frames) f).version ≤ 4000000000

-- Of a store behind which a run lies.
abbrev pub InRun : RulesStore → Type 0 → Type 0
InRun x says = (b : Book) → Run x b → says

-- All but the queue is as it was.
pub record Beside {F D : Type 0} (s t : Store F D) : Type 0 where
  pub state : t.state ≡ s.state
  pub frames : t.frames ≡ s.frames
  pub holds : t.holds ≡ s.holds

module _ {F D : Type 0} (f : Ghosts F) (d : Ghosts D) where
  abbrev pub view : Store F D → RulesStore
  view s =
      record { state = s.state; ram = ram_of s.frames; queue = queue.view f d s.queue; holds = s.holds }

  -- A store is in order when its media are and, in service, they have the sizes of one.
  pub record InOrder (s : Store F D) : Type 0 where
    pub media : queue.Reliable f d s.queue
    pub sized : s.state ≡ state.Up → queue.Sized (queue.view f d s.queue).flash

  -- A store in order stays so, and the answer and what it holds then are what the rules give to the call.
  abbrev pub Does : Store F D → Store F D → Result Answer Fault → Call → Type 0
  Does s t r c = InOrder s → InOrder t × Gives (step (view s) c) r (view t)

  -- Whatever run lies behind a store in order, it goes on with this call, and the promise holds.
  abbrev pub Stands : Store F D → Store F D → Result Answer Fault → Call → Type 0
  Stands s t r c = InOrder s → Promise (view s) c r (view t)

  -- A step on the way of a call, of a store whose queue is in order.
  abbrev pub Works : {A : Type 0} → Store F D → Store F D → Result A Fault
      → (RulesStore → Outcome Fault RulesStore A) → Type 0
  Works s t r rule =
      queue.InOrder f d s.queue → queue.InOrder f d t.queue × Gives (rule (view s)) r (view t)

  -- A mount of a store that is shut, whatever the sizes of its media.
  abbrev pub Mounts : Store F D → Store F D → Result Answer Fault → ℕ → Type 0
  Mounts s t r n =
      s.state ≡ state.Shut → queue.Reliable f d s.queue → InOrder t × Gives (mount_shut (view s) n) r (view t)
