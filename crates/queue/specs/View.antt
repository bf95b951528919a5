-- What a queue in memory is to the rules, and how its functions are said to do what the rules give.
use Rattle.std.specs.Prelude.{◌≡◌, ℕ, ◌≤◌, None, Result, slice_set}
use Rattle.medium.specs.declared.Medium.{Ghosts}
use Rattle.medium.specs.Meaning.{Meaning}
use Rattle.medium.specs.Outcome.{Outcome, Gives}
use Rattle.rules.specs.declared.fault.Fault.{Fault}
use Rattle.rules.specs.Queue.{Queue as RulesQueue, groups, slot}
use Rattle.rules.specs.Recovery.{no_entries}
use Rattle.queue.specs.declared.queue.Queue.{Queue}

-- A queue that has nothing in memory yet.
abbrev pub unused : Meaning → Meaning → RulesQueue
unused fl di = record { flash = fl; disk = di; front = 1; last = 0; entries = no_entries }

-- The slot of number q is empty.
abbrev pub cleared : RulesQueue → ℕ → RulesQueue
cleared x q =
    record {
      flash = x.flash;
      disk = x.disk;
      front = x.front;
      last = x.last;
      entries = slice_set x.entries (slot x q) None;
    }

-- A flash of 2 to 14 groups.
pub record Sized (m : Meaning) : Type 0 where
  pub least : 2 ≤ groups m
  pub most : groups m ≤ 14

module _ {F D : Type 0} (f : Ghosts F) (d : Ghosts D) where
  abbrev pub view : Queue F D → RulesQueue
  view s =
      record {
        flash = f.means s.flash;
        disk = d.means s.disk;
        front = s.front;
        last = s.last;
        entries = s.entries;
      }

  -- Its media are in order.
  pub record Reliable (s : Queue F D) : Type 0 where
    pub flash : f.inorder s.flash
    pub disk : d.inorder s.disk

  -- A queue is in order when its media are, and the flash has the size of one.
  pub record InOrder (s : Queue F D) : Type 0 where
    pub media : Reliable s
    pub sized : Sized (f.means s.flash)

  -- A queue in order stays so, and the answer and what it holds then are what the rule gives.
  abbrev pub Does : {A : Type 0} → Queue F D → Queue F D → Result A Fault → (RulesQueue → Outcome Fault RulesQueue A)
      → Type 0
  Does s t r rule = InOrder s → InOrder t × Gives (rule (view s)) r (view t)

  -- A queue in order stays so, what it holds stays, and the answer is what the rule finds.
  abbrev pub Finds : {A : Type 0} → Queue F D → Queue F D → A → (RulesQueue → A) → Type 0
  Finds s t r rule = InOrder s → InOrder t × (view t ≡ view s) × (r ≡ rule (view s))

  -- A queue in order stays so, and holds then what the rule makes of it.
  abbrev pub Changes : Queue F D → Queue F D → (RulesQueue → RulesQueue) → Type 0
  Changes s t rule = InOrder s → InOrder t × (view t ≡ rule (view s))
