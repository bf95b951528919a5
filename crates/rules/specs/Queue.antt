-- The queue of flash frames over the disk.
use Rattle.std.specs.Prelude.{ℕ, zero, suc, ◌+◌, ◌-◌, ◌*◌, ◌/◌, ◌%◌, Bool, false, cond, ◌&&◌, List, [], ◌∷◌, ◌++◌, drop, Some, None, Ok, Err, Option, Result, ◌==◌, slice_index_or, slice_set}
use Rattle.medium.specs.Meaning.{Bytes, Page, Meaning, size, page}
use Rattle.medium.specs.Outcome.{Outcome, done, refused}
use Rattle.medium.specs.Rules.{write}
use Rattle.rules.specs.declared.fault.Fault.{Fault}
use Rattle.rules.specs.declared.fault.Refusal.TheVariants as refusal
use Rattle.rules.specs.declared.fault.Side.{Side}
use Rattle.rules.specs.declared.fault.Side.TheVariants as side
use Rattle.rules.specs.declared.trailer.Trailer.{Trailer}
use Rattle.rules.specs.Steps.{then_do, within, framed, same}
use Rattle.rules.specs.Format.{Segment, encode, encode_segment, most}
use Rattle.rules.specs.Refusals.{plain, touched, of_cause}
use Rattle.rules.specs.Ranks.{highest}

-- The two media, and what the queue has in memory: the first live number and the last, and the directory, which has the
-- trailer of each live number in its frame's slot. There are 210 slots; those past the flash's own frames stay empty.
pub record Queue : Type 0 where
  pub flash : Meaning
  pub disk : Meaning
  pub front : ℕ
  pub last : ℕ
  pub entries : List (Option Trailer)

-- A flash of 16s + 1 pages has s groups of 15 frames each, and a page for each of s + 1 segments.
abbrev pub groups : Meaning → ℕ
groups m = (size m - 1) / 16

abbrev pub frames : Meaning → ℕ
frames m = 15 * groups m

-- Where number q lies among c frames.
abbrev pub place : ℕ → ℕ → ℕ
place c q = (q - 1) % c

-- The page of segment g, counted from 0, which describes 15g + 1 to 15g + 15.
abbrev pub segment_page : Meaning → ℕ → ℕ
segment_page m g = frames m + g % (groups m + 1)

-- How many numbers are live.
abbrev pub live : Queue → ℕ
live x = x.last + 1 - x.front

abbrev pub slot : Queue → ℕ → ℕ
slot x q = place (frames x.flash) q

abbrev pub entry : Queue → ℕ → Option Trailer
entry x q = slice_index_or x.entries (slot x q) None

-- An entry of the directory by its page and its number, 0 if there is none.
abbrev pub page_of : Option Trailer → Option ℕ
page_of None = None
page_of (Some t) = Some t.page

abbrev pub number : Option Trailer → ℕ
number None = 0
number (Some t) = t.q

abbrev pub found_entry : Option (ℕ × Option Trailer) → Option Trailer
found_entry None = None
found_entry (Some (i, t)) = t

-- The valid entry of page p: that of its highest live number.
abbrev pub valid : Queue → ℕ → Option Trailer
valid x p = found_entry (highest page_of number p x.entries)

abbrev pub with_flash : Queue → Meaning → Queue
with_flash x m = record { flash = m; disk = x.disk; front = x.front; last = x.last; entries = x.entries }

abbrev pub with_disk : Queue → Meaning → Queue
with_disk x m = record { flash = x.flash; disk = m; front = x.front; last = x.last; entries = x.entries }

-- A page write, with the page in its refusals.
abbrev pub write_flash : Queue → ℕ → Bytes → Outcome Fault Queue (Unit {0})
write_flash x i bs = within (of_cause side.Flash i) (with_flash x) (write x.flash i bs)

abbrev pub write_disk : Queue → ℕ → Bytes → Outcome Fault Queue (Unit {0})
write_disk x i bs = within (of_cause side.Disk i) (with_disk x) (write x.disk i bs)

-- The bytes of a page that has to be whole.
abbrev pub whole : Side → ℕ → Page → Result Bytes Fault
whole sd i None = Err (touched refusal.Foreign sd i)
whole sd i (Some bs) = Ok bs

abbrev pub read_whole : Side → Meaning → ℕ → Result Bytes Fault
read_whole sd m i = cond m.lit (whole sd i (page m i)) (Err (touched refusal.Dark sd i))

-- The bytes of the frame that entry t describes, checked against it.
abbrev pub like : ℕ → Trailer → Result Bytes Fault → Result Bytes Fault
like i t (Err e) = Err e
like i t (Ok bs) = cond (same (drop 240 bs) (encode t)) (Ok bs) (Err (touched refusal.Foreign side.Flash i))

abbrev pub checked : Queue → Trailer → Result Bytes Fault
checked x t = like (slot x t.q) t (read_whole side.Flash x.flash (slot x t.q))

-- Dequeue. The front entry leaves; if it is valid and dirty, its page is first written to the disk.
abbrev pub passed : Queue → Queue
passed x =
    record {
      flash = x.flash;
      disk = x.disk;
      front = x.front + 1;
      last = x.last;
      entries = slice_set x.entries (slot x x.front) None;
    }

abbrev pub saved : Queue → Trailer → Result Bytes Fault → Outcome Fault Queue (Unit {0})
saved x t (Err e) = refused e x []
saved x t (Ok bs) = then_do (write_disk x t.page bs) (λ a y. done tt (passed y) [])

-- Whether an entry's page has to go to the disk before the entry leaves.
abbrev pub must_save : Queue → Trailer → Bool
must_save x t = t.dirty && number (valid x t.page) == t.q

abbrev pub leave : Queue → Option Trailer → Outcome Fault Queue (Unit {0})
leave x None = done tt (passed x) []
leave x (Some t) =
    cond (t.dirty && number (valid x t.page) == t.q) (saved x t (checked x t)) (done tt (passed x) [])

abbrev pub dequeue : Queue → Outcome Fault Queue (Unit {0})
dequeue x = leave x (entry x x.front)

-- Number q stands in its frame now.
abbrev pub entered : Queue → Trailer → Queue
entered x t =
    record {
      flash = x.flash;
      disk = x.disk;
      front = x.front;
      last = t.q;
      entries = slice_set x.entries (slot x t.q) (Some t);
    }

-- The trailers of n numbers from q on, as the directory has them.
abbrev pub or_zero : Option Trailer → Trailer
or_zero None = record { q = 0; back = 0; version = 0; page = 0; dirty = false }
or_zero (Some t) = t

abbrev pub run_of : Queue → ℕ → ℕ → List Trailer
run_of x zero q = []
run_of x (suc n) q = or_zero (entry x q) ∷ run_of x n (q + 1)

-- The segment that ends at the last number.
abbrev pub segment_of : Queue → Segment
segment_of x = record { last = x.last; front = x.front; entries = run_of x 15 (x.last - 14) }

abbrev pub write_segment : Queue → Outcome Fault Queue (Unit {0})
write_segment x = write_flash x (segment_page x.flash (x.last / 15 - 1)) (encode_segment (segment_of x))

-- It is due after every fifteenth number.
abbrev pub describe_due : Queue → Outcome Fault Queue (Unit {0})
describe_due x = cond (x.last % 15 == 0) (write_segment x) (done tt x [])

-- The frame of a trailer's number is written; this is the one write that the book is told of.
abbrev pub write_frame : Queue → Trailer → Bytes → Outcome Fault Queue (Unit {0})
write_frame x t bs = framed (page x.flash (slot x t.q)) bs (write_flash x (slot x t.q) bs)

abbrev pub append : Queue → Trailer → Bytes → Outcome Fault Queue (Unit {0})
append x t body = then_do (write_frame x t (body ++ encode t)) (λ a y. describe_due (entered y t))

-- One frame fewer than there are may be live, so that the frame of the next number is free.
abbrev pub make_room : Queue → Outcome Fault Queue (Unit {0})
make_room x = cond (live x == frames x.flash - 1) (dequeue x) (done tt x [])

-- The next trailer, for version v of page p: it points back to the page's valid entry.
abbrev pub next : Queue → ℕ → ℕ → Bool → Trailer
next x p v d = record { q = x.last + 1; back = number (valid x p); version = v; page = p; dirty = d }

abbrev pub enqueue : Queue → ℕ → ℕ → Bool → Bytes → Outcome Fault Queue (Unit {0})
enqueue x p v d body =
    cond (x.last == most) (refused (plain refusal.Spent) x [])
    (then_do (make_room x) (λ a y. append y (next y p v d) body))
