-- The store: RAM frames over the queue, and the seven calls.
use Rattle.std.specs.Prelude.{ℕ, zero, suc, ◌+◌, ◌*◌, Bool, true, false, cond, ◌&&◌, ◌||◌, [], length, take, Some, None, Ok, Err, Option, Result, ◌==◌, nat_le, nat_lt}
use Rattle.medium.specs.Meaning.{Bytes, Page, Meaning, size, page}
use Rattle.medium.specs.Outcome.{Outcome, done, refused, struck}
use Rattle.medium.specs.Rules.{relit}
use Rattle.rules.specs.declared.fault.Fault.{Fault}
use Rattle.rules.specs.declared.fault.Refusal.{Refusal}
use Rattle.rules.specs.declared.fault.Refusal.TheVariants as refusal
use Rattle.rules.specs.declared.fault.Side.TheVariants as side
use Rattle.rules.specs.declared.state.Mounted.{Mounted}
use Rattle.rules.specs.declared.state.State.{State}
use Rattle.rules.specs.declared.state.State.TheVariants as state
use Rattle.rules.specs.declared.table.Card.{Card}
use Rattle.rules.specs.declared.table.Grant.{Grant}
use Rattle.rules.specs.declared.trailer.Trailer.{Trailer}
use Rattle.rules.specs.Steps.{then_do, within}
use Rattle.rules.specs.Format.{proper, most}
use Rattle.rules.specs.Refusals.{is_dark, plain, touched}
use Rattle.rules.specs.Queue.{Queue, valid, checked, enqueue, groups}
use Rattle.rules.specs.Recovery.{recover, no_entries}
use Rattle.rules.specs.Ram.{Ram, empty, blank, fresh, card_at, body_at, with_card, with_frame, to_head, in_ram}
use Rattle.rules.specs.Ram.{last_free, is_held, held_card, changed, cleaned, fetched, put}

-- `holds` is the last hold number given.
pub record Store : Type 0 where
  pub state : State
  pub ram : Ram
  pub queue : Queue
  pub holds : ℕ

-- The calls, with what they are given. A hold is its frame and its number; of a buffer to read into the length matters.
pub data Call : Type 0 where
  mount : ℕ → Call
  take_page : ℕ → Call
  read : ℕ → ℕ → ℕ → Call
  write : ℕ → ℕ → ℕ → Bytes → Call
  give_back : ℕ → ℕ → Call
  checkpoint : Call
  power_cycle : ℕ → ℕ → Call

-- What each call answers: what mount found, the hold, a body and its version, the new version, how many were saved.
pub data Answer : Type 0 where
  mounted : Mounted → Answer
  took : Grant → Answer
  gave : Bytes → ℕ → Answer
  wrote : ℕ → Answer
  given : Answer
  saved : ℕ → Answer
  cycled : Answer

abbrev pub Out : Type 0
Out = Outcome Fault Store Answer

-- A step on the way of a call.
abbrev pub Way : Type 0
Way = Outcome Fault Store (Unit {0})

abbrev pub with_ram : Store → Ram → Store
with_ram x m = record { state = x.state; ram = m; queue = x.queue; holds = x.holds }

abbrev pub with_queue : Store → Queue → Store
with_queue x y = record { state = x.state; ram = x.ram; queue = y; holds = x.holds }

abbrev pub with_state : Store → State → Store
with_state x t = record { state = t; ram = x.ram; queue = x.queue; holds = x.holds }

abbrev pub refuse : Refusal → Store → Out
refuse c x = refused (plain c) x []

-- A store is dark once a medium answered dark.
abbrev pub darkened : {A : Type 0} → Outcome Fault Store A → Outcome Fault Store A
darkened (done a x ws) = done a x ws
darkened (refused e x ws) = refused e (cond (is_dark e.cause) (with_state x state.Dark) x) ws
darkened (struck e f ws) = struck e (λ w. with_state (f w) state.Dark) ws

-- A rule of the queue.
abbrev pub on_queue : {A : Type 0} → Store → Outcome Fault Queue A → Outcome Fault Store A
on_queue x o = darkened (within (λ e. e) (with_queue x) o)

-- Take. Frame f is held under the next number, and moves to the head of the list.
abbrev pub hold_frame : Store → ℕ → Option ℕ → Out
hold_frame x f left =
    let n = x.holds + 1 in
    let c = card_at x.ram f in
    done (took (record { frame = f; number = n; version = c.version; evicted = left }))
    (record {
      state = x.state;
      ram = to_head (with_card x.ram f (held_card c n)) f;
      queue = x.queue;
      holds = n;
    }) []

-- A page leaves its frame by way of the flash if its flash copy is older or, being written at all, it has none.
abbrev pub emptied : Store → ℕ → Store
emptied x f = with_ram x (with_card x.ram f empty)

abbrev pub is_none : {A : Type 0} → Option A → Bool
is_none None = true
is_none (Some a) = false

abbrev pub must_go : Queue → ℕ → Card → Bool
must_go y p c = c.fdirty || (nat_lt 0 c.version && is_none (valid y p))

abbrev pub enqueue_frame : Store → ℕ → ℕ → Way
enqueue_frame x f p =
    let c = card_at x.ram f in
    on_queue x (enqueue x.queue p c.version c.dirty (body_at x.ram f))

abbrev pub leave : Store → ℕ → Card → Option ℕ → Way
leave x f c None = done tt (emptied x f) []
leave x f c (Some p) =
    cond (must_go x.queue p c)
    (then_do (enqueue_frame x f p) (λ u y. done tt (emptied y f) []))
    (done tt (emptied x f) [])

abbrev pub empty_frame : Store → ℕ → Way
empty_frame x f = leave x f (card_at x.ram f) (card_at x.ram f).page

-- A page comes into a frame from the flash, if it has a valid entry there, or else from the disk.
abbrev pub filled : Store → ℕ → Card → Bytes → Store
filled x f c body = with_ram x (with_frame x.ram f c body)

abbrev pub from_flash : Store → ℕ → ℕ → Trailer → Result Bytes Fault → Way
from_flash x f p t (Err e) = refused e x []
from_flash x f p t (Ok bs) = done tt (filled x f (fetched p t.version t.dirty) (take 240 bs)) []

abbrev pub of_page : Store → ℕ → ℕ → Bytes → Option Trailer → Way
of_page x f p bs None = refused (touched refusal.Foreign side.Disk p) x []
of_page x f p bs (Some t) =
    cond (t.page == p) (done tt (filled x f (fetched p t.version false) (take 240 bs)) [])
    (refused (touched refusal.Foreign side.Disk p) x [])

abbrev pub from_disk : Store → ℕ → ℕ → Page → Way
from_disk x f p None = done tt (filled x f (fetched p 0 false) blank) []
from_disk x f p (Some bs) = of_page x f p bs (proper (size x.queue.disk) bs 240)

abbrev pub from_valid : Store → ℕ → ℕ → Option Trailer → Way
from_valid x f p (Some t) = from_flash x f p t (checked x.queue t)
from_valid x f p None =
    cond x.queue.disk.lit (from_disk x f p (page x.queue.disk p))
    (refused (touched refusal.Dark side.Disk p) x [])

abbrev pub fetch : Store → ℕ → ℕ → Way
fetch x f p = darkened (from_valid x f p (valid x.queue p))

-- A page that is not in RAM: a frame is emptied for it.
abbrev pub bring : Store → ℕ → Option ℕ → Out
bring x p None = refuse refusal.AllHeld x
bring x p (Some f) =
    cond (x.holds == most) (refuse refusal.Spent x)
    (then_do (empty_frame x f) (λ u y. then_do (fetch y f p) (λ v z. hold_frame z f (card_at x.ram f).page)))

abbrev pub take_of : Store → ℕ → Option ℕ → Out
take_of x p None = bring x p (last_free x.ram x.ram.recency)
take_of x p (Some f) =
    cond ((card_at x.ram f).hold == 0)
    (cond (x.holds == most) (refuse refusal.Spent x) (hold_frame x f None))
    (refuse refusal.Held x)

abbrev pub take_up : Store → ℕ → Out
take_up x p = cond (nat_lt p (size x.queue.disk)) (take_of x p (in_ram x.ram p)) (refuse refusal.NoPage x)

-- Read, write and give back want the frame's hold.
abbrev pub read_up : Store → ℕ → ℕ → ℕ → Out
read_up x f n len =
    cond (is_held x.ram f n)
    (cond (len == 240)
    (done (gave (body_at x.ram f) (card_at x.ram f).version) x [])
    (refuse refusal.Length x))
    (refuse refusal.Stale x)

abbrev pub written_frame : Store → ℕ → ℕ → Bytes → Store
written_frame x f o bs =
    with_ram x (with_frame x.ram f (changed (card_at x.ram f)) (put (body_at x.ram f) o bs))

abbrev pub write_up : Store → ℕ → ℕ → ℕ → Bytes → Out
write_up x f n o bs =
    cond (is_held x.ram f n)
    (cond (nat_le (o + length bs) 240)
    (cond ((card_at x.ram f).version == most)
    (refuse refusal.Spent x)
    (done (wrote ((card_at x.ram f).version + 1)) (written_frame x f o bs) []))
    (refuse refusal.Length x))
    (refuse refusal.Stale x)

abbrev pub give_up : Store → ℕ → ℕ → Out
give_up x f n =
    cond (is_held x.ram f n)
    (done given (with_ram x (with_card x.ram f (held_card (card_at x.ram f) 0))) [])
    (refuse refusal.Stale x)

-- Checkpoint: the pages of frames that are newer than their flash copies are enqueued, from frame 0 up.
abbrev pub save : Store → ℕ → Option ℕ → Way
save x f None = done tt x []
save x f (Some p) =
    then_do (enqueue_frame x f p)
    (λ u y. done tt (with_ram y (with_card y.ram f (cleaned (card_at y.ram f)))) [])

-- The n frames from f on; k were saved before.
abbrev pub save_all : ℕ → Store → ℕ → ℕ → Out
save_all zero x f k = done (saved k) x []
save_all (suc n) x f k =
    cond (card_at x.ram f).fdirty
    (then_do (save x f (card_at x.ram f).page) (λ u y. save_all n y (f + 1) (k + 1)))
    (save_all n x (f + 1) k)

-- Mount: 1 to 16 frames, a flash of 16s + 1 pages with s from 2 to 14, a disk of 1 to 240 pages.
abbrev pub fits : ℕ → Meaning → Meaning → Bool
fits b fl di =
    nat_le 1 b
    && (nat_le b 16
    && (size fl == 16 * groups fl + 1
    && (nat_le 2 (groups fl)
    && (nat_le (groups fl) 14
    && (nat_le 1 (size di)
    && nat_le (size di) 240)))))

abbrev pub raised : ℕ → Store → Store
raised b x = record { state = state.Up; ram = fresh b; queue = x.queue; holds = x.holds }

abbrev pub mount_shut : Store → ℕ → Out
mount_shut x b =
    cond (fits b x.queue.flash x.queue.disk)
    (then_do (on_queue x (recover x.queue)) (λ a y. done (mounted a) (raised b y) []))
    (refuse refusal.Size x)

-- Power cycle: RAM is forgotten, both media are lit again.
abbrev pub forgotten : Queue → ℕ → ℕ → Queue
forgotten y cf cd =
    record {
      flash = relit y.flash cf;
      disk = relit y.disk cd;
      front = 1;
      last = 0;
      entries = no_entries;
    }

abbrev pub cycle : Store → ℕ → ℕ → Out
cycle x cf cd =
    done cycled
    (record { state = state.Shut; ram = fresh 0; queue = forgotten x.queue cf cd; holds = x.holds }) []

-- State and call decide first.
abbrev pub when_up : Store → Call → Out
when_up x (mount b) = refuse refusal.Up x
when_up x (take_page p) = take_up x p
when_up x (read f n len) = read_up x f n len
when_up x (write f n o bs) = write_up x f n o bs
when_up x (give_back f n) = give_up x f n
when_up x checkpoint = save_all x.ram.count x 0 0
when_up x (power_cycle cf cd) = cycle x cf cd

abbrev pub when_shut : Store → Call → Out
when_shut x (mount b) = mount_shut x b
when_shut x (take_page p) = refuse refusal.Shut x
when_shut x (read f n len) = refuse refusal.Shut x
when_shut x (write f n o bs) = refuse refusal.Shut x
when_shut x (give_back f n) = refuse refusal.Shut x
when_shut x checkpoint = refuse refusal.Shut x
when_shut x (power_cycle cf cd) = cycle x cf cd

abbrev pub when_dark : Store → Call → Out
when_dark x (mount b) = refuse refusal.Dark x
when_dark x (take_page p) = refuse refusal.Dark x
when_dark x (read f n len) = refuse refusal.Dark x
when_dark x (write f n o bs) = refuse refusal.Dark x
when_dark x (give_back f n) = refuse refusal.Dark x
when_dark x checkpoint = refuse refusal.Dark x
when_dark x (power_cycle cf cd) = cycle x cf cd

abbrev pub by_state : State → Store → Call → Out
by_state state.Up x c = when_up x c
by_state state.Shut x c = when_shut x c
by_state state.Dark x c = when_dark x c

-- What each call gives.
abbrev pub step : Store → Call → Out
step x c = by_state x.state x c
