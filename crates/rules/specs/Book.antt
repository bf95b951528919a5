-- The book: what each page reads as now, and what is kept of it, by what the store was told and what its frames kept.
use Rattle.std.specs.Prelude.{ℕ, ◌+◌, Bool, false, cond, ◌&&◌, List, [], ◌∷◌, Some, None, Ok, Err, Option, Result, ◌==◌}
use Rattle.medium.specs.Meaning.{Bytes, Page}
use Rattle.medium.specs.Outcome.{Wrote}
use Rattle.rules.specs.declared.fault.Fault.{Fault}
use Rattle.rules.specs.Steps.{same}
use Rattle.rules.specs.Format.{fields}
use Rattle.rules.specs.Ram.{blank, put}
use Rattle.rules.specs.Store.{Call, mount, take_page, read, write, give_back, checkpoint, power_cycle}
use Rattle.rules.specs.Store.{Answer, mounted, took, gave, wrote, given, saved, cycled}

-- A body and its version.
pub record Copy : Type 0 where
  pub body : Bytes
  pub version : ℕ

-- An accepted take: the frame and the number of its hold, and its page.
pub record Taken : Type 0 where
  pub frame : ℕ
  pub number : ℕ
  pub page : ℕ

pub record Book : Type 0 where
  pub now : ℕ → Copy
  pub kept : ℕ → Copy
  pub taken : List Taken

-- At first every page is 240 zeros, version 0.
abbrev pub nothing : ℕ → Copy
nothing p = record { body = blank; version = 0 }

abbrev pub opened : Book
opened = record { now = nothing; kept = nothing; taken = [] }

-- f, but c at page p.
abbrev pub at : (ℕ → Copy) → ℕ → Copy → ℕ → Copy
at f p c i = cond (i == p) c (f i)

-- The page of a read or a write: that of the accepted take which answered its hold's frame and number.
abbrev pub page_of : List Taken → ℕ → ℕ → Option ℕ
page_of [] f n = None
page_of (t ∷ ts) f n = cond (t.frame == f && t.number == n) (Some t.page) (page_of ts f n)

-- An accepted write changes its page's now, and raises that version by one.
abbrev pub changed : Copy → ℕ → Bytes → Copy
changed c o bs = record { body = put c.body o bs; version = c.version + 1 }

abbrev pub write_into : Book → Option ℕ → ℕ → Bytes → Book
write_into b None o bs = b
write_into b (Some p) o bs =
    record { now = at b.now p (changed (b.now p) o bs); kept = b.kept; taken = b.taken }

abbrev pub take_into : Book → ℕ → Answer → Book
take_into b p (mounted a) = b
take_into b p (took h) =
    record {
      now = b.now;
      kept = b.kept;
      taken = record { frame = h.frame; number = h.number; page = p } ∷ b.taken;
    }
take_into b p (gave bs v) = b
take_into b p (wrote v) = b
take_into b p given = b
take_into b p (saved k) = b
take_into b p cycled = b

-- An accepted call. A checkpoint keeps what every page is now; after a mount every page is what was kept of it.
abbrev pub accept : Book → Call → Answer → Book
accept b (mount n) a = record { now = b.kept; kept = b.kept; taken = b.taken }
accept b (take_page p) a = take_into b p a
accept b (read f n len) a = b
accept b (write f n o bs) a = write_into b (page_of b.taken f n) o bs
accept b (give_back f n) a = b
accept b checkpoint a = record { now = b.now; kept = b.now; taken = b.taken }
accept b (power_cycle cf cd) a = b

abbrev pub answer : Book → Call → Result Answer Fault → Book
answer b c (Ok a) = accept b c a
answer b c (Err e) = b

-- A frame write that was left whole with the new bytes keeps what the page is now that its trailer names.
abbrev pub keep : Book → ℕ → Book
keep b p = record { now = b.now; kept = at b.kept p (b.now p); taken = b.taken }

abbrev pub stands : Bytes → Page → Bool
stands bs None = false
stands bs (Some xs) = same xs bs

abbrev pub one_frame : Book → Wrote → Book
one_frame b w = cond (stands w.bytes w.left) (keep b (fields w.bytes 240).page) b

abbrev pub frames : Book → List Wrote → Book
frames b [] = b
frames b (w ∷ ws) = frames (one_frame b w) ws

-- The book after a call, with the frame writes on its way; these count in a refused call too.
abbrev pub fed : Book → Call → Result Answer Fault → List Wrote → Book
fed b c r ws = answer (frames b ws) c r
