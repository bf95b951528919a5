-- What is promised of every run of calls and power cuts.
use Rattle.std.specs.Prelude.{◌≡◌, ℕ, ◌+◌, ◌-◌, ◌<◌, ◌≤◌, min, true, ◌⊎◌, List, take, Some, None, Ok, Err, Option, Result}
use Rattle.medium.specs.Meaning.{Bytes, Meaning, size, page}
use Rattle.medium.specs.Outcome.{Outcome, Wrote, Gives, done, refused, struck}
use Rattle.rules.specs.declared.fault.Fault.{Fault}
use Rattle.rules.specs.declared.state.Mounted.{Mounted}
use Rattle.rules.specs.declared.state.State.TheVariants as state
use Rattle.rules.specs.Steps.{Ends}
use Rattle.rules.specs.Format.{Segment, fields}
use Rattle.rules.specs.Queue.{groups, frames}
use Rattle.rules.specs.Recovery.{newest, read_segments, last_of}
use Rattle.rules.specs.Store.{Store, step, fits}
use Rattle.rules.specs.Store.{Call, mount, take_page, read, write, give_back, checkpoint, power_cycle}
use Rattle.rules.specs.Store.{Answer, mounted, took, gave, wrote, given, saved, cycled}
use Rattle.rules.specs.Book.{Book, opened, fed, page_of}

-- Runs. A medium is lit, with any charge, and no page of it is readable.
pub record Blank (m : Meaning) : Type 0 where
  pub lit : m.lit ≡ true
  pub none : (i : ℕ) → page m i ≡ None

-- A store before its first mount, over blank media of fitting sizes.
pub record Fresh (x : Store) : Type 0 where
  pub shut_yet : x.state ≡ state.Shut
  pub unused : x.holds ≡ 0
  pub fitting : fits 1 x.queue.flash x.queue.disk ≡ true
  pub flash_blank : Blank x.queue.flash
  pub disk_blank : Blank x.queue.disk

-- A run is any finite list of calls, refused ones too, with whatever strikes left; it ends in a store and a book.
pub data Run : Store → Book → Type 0 where
  begun : {x : Store} → Fresh x → Run x opened
  next : {x y : Store} {b : Book} → Run x b → (c : Call) (r : Result Answer Fault) (ws : List Wrote)
      → Ends (step x c) r y ws → Run y (fed b c r ws)

-- (a) An accepted read gives its page's now.
abbrev pub Now : Book → Option ℕ → Bytes → ℕ → Type 0
Now b None bs v = ⊥
Now b (Some p) bs v = b.now p ≡ record { body = bs; version = v }

abbrev pub gives_now : Book → ℕ → ℕ → Answer → Type 0
gives_now b f n (mounted a) = Unit {0}
gives_now b f n (took h) = Unit {0}
gives_now b f n (gave bs v) = Now b (page_of b.taken f n) bs v
gives_now b f n (wrote v) = Unit {0}
gives_now b f n given = Unit {0}
gives_now b f n (saved k) = Unit {0}
gives_now b f n cycled = Unit {0}

abbrev pub accepted_read : Book → ℕ → ℕ → Result Answer Fault → Type 0
accepted_read b f n (Err e) = Unit {0}
accepted_read b f n (Ok a) = gives_now b f n a

abbrev pub Reads : Book → Call → Result Answer Fault → Type 0
Reads b (mount n) r = Unit {0}
Reads b (take_page p) r = Unit {0}
Reads b (read f n len) r = accepted_read b f n r
Reads b (write f n o bs) r = Unit {0}
Reads b (give_back f n) r = Unit {0}
Reads b checkpoint r = Unit {0}
Reads b (power_cycle cf cd) r = Unit {0}

-- (b) A whole copy of page p, in a flash frame or on the disk; it is of the page that its trailer names.
abbrev pub Stands : Store → ℕ → Bytes → Type 0
Stands x p bs =
    ((fields bs 240).page ≡ p)
    × (((i : ℕ) × (i < frames x.queue.flash) × (page x.queue.flash i ≡ Some bs))
    ⊎ ((i : ℕ) × (i < size x.queue.disk) × (page x.queue.disk i ≡ Some bs)))

-- The highest version of page p that stands whole is the kept one, each whole copy of it has the kept body, and where
-- nothing was kept there is no whole copy.
pub record Found (x : Store) (b : Book) (p : ℕ) : Type 0 where
  pub highest : (bs : Bytes) → Stands x p bs → (fields bs 240).version ≤ (b.kept p).version
  pub alike : (bs : Bytes) → Stands x p bs → (fields bs 240).version ≡ (b.kept p).version
      → take 240 bs ≡ (b.kept p).body
  pub there : 0 < (b.kept p).version → (bs : Bytes) × Stands x p bs × ((fields bs 240).version ≡ (b.kept p).version)
  pub none : (b.kept p).version ≡ 0 → (bs : Bytes) → Stands x p bs → ⊥

-- (c) How many frames after the newest segment a mount accepted.
abbrev pub after_newest : Result (List (Option Segment)) Fault → ℕ → ℕ
after_newest (Err e) r = 0
after_newest (Ok gs) r = r - last_of (newest gs)

abbrev pub tail_of : Store → Mounted → ℕ
tail_of x a =
    let m = x.queue.flash in
    after_newest (read_segments m (size x.queue.disk) (groups m + 1) 0) a.last

abbrev pub reports : Store → Answer → Type 0
reports x (mounted a) = a.reads ≡ groups x.queue.flash + 1 + min (tail_of x a + 1) 15
reports x (took h) = ⊥
reports x (gave bs v) = ⊥
reports x (wrote v) = ⊥
reports x given = ⊥
reports x (saved k) = ⊥
reports x cycled = ⊥

-- A mount succeeds with that count of reads, or its write is struck.
abbrev pub succeeds : Store → Outcome Fault Store Answer → Type 0
succeeds x (done a y ws) = reports x a
succeeds x (refused e y ws) = ⊥
succeeds x (struck e f ws) = Unit {0}

abbrev pub Mounts : Store → Type 0
Mounts x = x.state ≡ state.Shut → (n : ℕ) → 1 ≤ n → n ≤ 16 → succeeds x (step x (mount n))

-- All three, of a call with the book before it and the store after it.
pub record Holds (b : Book) (c : Call) (r : Result Answer Fault) (y : Store) (ws : List Wrote) : Type 0 where
  pub behind : Run y (fed b c r ws)
  pub reads : Reads b c r
  pub found : (p : ℕ) → p < size y.queue.disk → Found y (fed b c r ws) p
  pub mounts : Mounts y

-- What stands on each public call: whatever run lies behind the store, the run goes on and all three hold.
abbrev pub Promise : Store → Call → Result Answer Fault → Store → Type 0
Promise x c r y = (b : Book) → Run x b → (ws : List Wrote) × Ends (step x c) r y ws × Holds b c r y ws

-- It follows from this alone, that answer and state are what the rule gives.
abbrev pub EachCall : Type 0
EachCall = (x : Store) (c : Call) (r : Result Answer Fault) (y : Store) → Gives (step x c) r y → Promise x c r y

-- In other words, of every run.
abbrev pub EveryRun : Type 0
EveryRun =
    (x : Store) (b : Book) → Run x b → (c : Call) (r : Result Answer Fault) (y : Store) (ws : List Wrote)
    → Ends (step x c) r y ws → Holds b c r y ws
