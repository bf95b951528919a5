-- Runs told call by call, with the answers worked out by hand: no definition is hollow.
use Rattle.std.specs.Prelude.{◌≡◌, ℕ, zero, suc, ◌+◌, true, List, [], ◌∷◌, ◌++◌, drop, replicate, Some, None, Ok, Err, Result, slice_set}
use Rattle.medium.specs.Meaning.{Bytes, Page, Left, old, new, torn, page}
use Rattle.medium.specs.Outcome.{Wrote, done, refused, struck}
use Rattle.rules.specs.declared.fault.Fault.{Fault}
use Rattle.rules.specs.declared.fault.Refusal.TheVariants as refusal
use Rattle.rules.specs.declared.fault.Side.TheVariants as side
use Rattle.rules.specs.declared.state.State.TheVariants as state
use Rattle.rules.specs.Format.{encode, most}
use Rattle.rules.specs.Refusals.{plain, touched}
use Rattle.rules.specs.Ram.{fresh}
use Rattle.rules.specs.Recovery.{no_entries}
use Rattle.rules.specs.Store.{Store, Out, step}
use Rattle.rules.specs.Store.{Call, mount, take_page, read, write, give_back, checkpoint, power_cycle}
use Rattle.rules.specs.Store.{Answer, mounted, took, gave, wrote, given, saved, cycled}
use Rattle.rules.specs.Book.{Book, opened, fed}
use Rattle.rules.specs.Promise.{Fresh, Run}
use Rattle.worked.specs.Examples.{first_save, first_segment}

-- How a call ended: its answer, the store after it, and the frame writes on its way.
pub record Ended : Type 0 where
  pub answer : Result Answer Fault
  pub store : Store
  pub frames : List Wrote

-- The end of a call, where w is what a strike leaves.
abbrev pub ended : Left → Out → Ended
ended w (done a y ws) = record { answer = Ok a; store = y; frames = ws }
ended w (refused e y ws) = record { answer = Err e; store = y; frames = ws }
ended w (struck e f ws) = record { answer = Err e; store = f w; frames = ws w }

-- What these calls answer, one after another; the store and the book after them.
unfoldable pub answers : Left → Store → List Call → List (Result Answer Fault)
answers w x [] = []
answers w x (c ∷ cs) = let e = ended w (step x c) in e.answer ∷ answers w e.store cs

unfoldable pub store_after : Left → Store → List Call → Store
store_after w x [] = x
store_after w x (c ∷ cs) = store_after w (ended w (step x c)).store cs

unfoldable pub book_after : Left → Store → Book → List Call → Book
book_after w x b [] = b
book_after w x b (c ∷ cs) =
    let e = ended w (step x c) in
    book_after w e.store (fed b c e.answer e.frames) cs

-- A store of two groups and eight disk pages before its first mount: flash pages ps, the charges of flash and disk, and
-- how many holds were given before.
abbrev pub store_over : List Page → ℕ → ℕ → ℕ → Store
store_over ps cf cd n =
    record {
      state = state.Shut;
      ram = fresh 0;
      queue = record {
        flash = record { pages = ps; charge = cf; lit = true };
        disk = record { pages = replicate 8 None; charge = cd; lit = true };
        front = 1;
        last = 0;
        entries = no_entries;
      };
      holds = n;
    }

-- One over media that were never written.
abbrev pub new_store : ℕ → ℕ → Store
new_store cf cd = store_over (replicate 33 None) cf cd 0

-- Answers in short: a mount's last number, live numbers and reads; a take's frame, number and version; a body whose
-- first byte is k, the rest zeros.
abbrev pub found : ℕ → ℕ → ℕ → Result Answer Fault
found l v r = Ok (mounted (record { last = l; live = v; reads = r }))

abbrev pub holds : ℕ → ℕ → ℕ → Result Answer Fault
holds f n v = Ok (took (record { frame = f; number = n; version = v; evicted = None }))

abbrev pub body : ℕ → Bytes
body k = k ∷ replicate 239 0

-- One page written once and saved; the power goes and comes back, and the page reads as it was written.
abbrev pub first_calls : List Call
first_calls =
    mount 2
    ∷ take_page 0
    ∷ write 1 1 0 (7 ∷ [])
    ∷ give_back 1 1
    ∷ checkpoint
    ∷ power_cycle 100 100
    ∷ mount 2
    ∷ take_page 0
    ∷ read 1 2 240
    ∷ []

abbrev pub first_answers : List (Result Answer Fault)
first_answers =
    found 0 0 4
    ∷ holds 1 1 0
    ∷ Ok (wrote 1)
    ∷ Ok given
    ∷ Ok (saved 1)
    ∷ Ok cycled
    ∷ found 1 1 5
    ∷ holds 1 2 1
    ∷ Ok (gave (body 7) 1)
    ∷ []

-- Saved once as 7; as it is saved as 8 the flash, whose charge is 1, goes dark in the frame write.
abbrev pub struck_calls : List Call
struck_calls =
    mount 2
    ∷ take_page 0
    ∷ write 1 1 0 (7 ∷ [])
    ∷ checkpoint
    ∷ write 1 1 0 (8 ∷ [])
    ∷ checkpoint
    ∷ read 1 1 240
    ∷ power_cycle 100 100
    ∷ mount 2
    ∷ take_page 0
    ∷ read 1 2 240
    ∷ []

-- n is the last number that the mount finds, and so the version of the page, r its reads, and k the page's first byte.
abbrev pub struck_answers : ℕ → ℕ → ℕ → List (Result Answer Fault)
struck_answers n r k =
    found 0 0 4
    ∷ holds 1 1 0
    ∷ Ok (wrote 1)
    ∷ Ok (saved 1)
    ∷ Ok (wrote 2)
    ∷ Err (touched refusal.Dark side.Flash 1)
    ∷ Err (plain refusal.Dark)
    ∷ Ok cycled
    ∷ found n n r
    ∷ holds 1 2 n
    ∷ Ok (gave (body k) n)
    ∷ []

-- Writes of the bytes k, k + 1, .. to frame f under hold m, each of them saved; and their answers.
abbrev pub saves : ℕ → ℕ → ℕ → ℕ → List Call
saves f m zero k = []
saves f m (suc n) k = write f m 0 (k ∷ []) ∷ checkpoint ∷ saves f m n (k + 1)

abbrev pub saved_well : ℕ → ℕ → List (Result Answer Fault)
saved_well zero k = []
saved_well (suc n) k = Ok (wrote k) ∷ Ok (saved 1) ∷ saved_well n (k + 1)

-- Fifteen frames, and a flash of charge 15 goes dark in the write of their segment. The mount that writes it anew is
-- struck too, on a flash of charge 0; a mount with power to write reads every segment page and fifteen frames, and
-- one after it finds the segment.
abbrev pub segment_calls : List Call
segment_calls =
    mount 2
    ∷ take_page 0
    ∷ (saves 1 1 15 1
    ++ (power_cycle 0 100
    ∷ mount 2
    ∷ mount 2
    ∷ power_cycle 100 100
    ∷ mount 2
    ∷ take_page 0
    ∷ read 1 2 240
    ∷ power_cycle 100 100
    ∷ mount 2
    ∷ []))

abbrev pub segment_answers : List (Result Answer Fault)
segment_answers =
    found 0 0 4
    ∷ holds 1 1 0
    ∷ (saved_well 14 1
    ++ (Ok (wrote 15)
    ∷ Err (touched refusal.Dark side.Flash 30)
    ∷ Ok cycled
    ∷ Err (touched refusal.Dark side.Flash 30)
    ∷ Err (plain refusal.Dark)
    ∷ Ok cycled
    ∷ found 15 15 18
    ∷ holds 1 2 15
    ∷ Ok (gave (body 15) 15)
    ∷ Ok cycled
    ∷ found 15 15 4
    ∷ []))

-- Page 0 is saved once as 9, then page 1 thirty times, so that number 1 leaves the queue by way of the disk; page 0 is
-- then found there.
abbrev pub disk_calls : List Call
disk_calls =
    mount 2
    ∷ take_page 0
    ∷ write 1 1 0 (9 ∷ [])
    ∷ give_back 1 1
    ∷ checkpoint
    ∷ take_page 1
    ∷ (saves 0 2 30 1
    ++ (power_cycle 100 100
    ∷ mount 2
    ∷ take_page 0
    ∷ read 1 3 240
    ∷ take_page 1
    ∷ read 0 4 240
    ∷ []))

abbrev pub disk_answers : List (Result Answer Fault)
disk_answers =
    found 0 0 4
    ∷ holds 1 1 0
    ∷ Ok (wrote 1)
    ∷ Ok given
    ∷ Ok (saved 1)
    ∷ holds 0 2 0
    ∷ (saved_well 30 1
    ++ (Ok cycled
    ∷ found 31 29 5
    ∷ holds 1 3 1
    ∷ Ok (gave (body 9) 1)
    ∷ holds 0 4 30
    ∷ Ok (gave (body 30) 30)
    ∷ []))

-- The same over a disk of charge 0: the write of page 0 is struck there, and number 30 is not given. Nothing was saved
-- wrongly, and both pages are found on the flash.
abbrev pub disk_struck_calls : List Call
disk_struck_calls =
    mount 2
    ∷ take_page 0
    ∷ write 1 1 0 (9 ∷ [])
    ∷ give_back 1 1
    ∷ checkpoint
    ∷ take_page 1
    ∷ (saves 0 2 29 1
    ++ (power_cycle 100 100
    ∷ mount 2
    ∷ take_page 0
    ∷ read 1 3 240
    ∷ take_page 1
    ∷ read 0 4 240
    ∷ []))

abbrev pub disk_struck_answers : List (Result Answer Fault)
disk_struck_answers =
    found 0 0 4
    ∷ holds 1 1 0
    ∷ Ok (wrote 1)
    ∷ Ok given
    ∷ Ok (saved 1)
    ∷ holds 0 2 0
    ∷ (saved_well 28 1
    ++ (Ok (wrote 29)
    ∷ Err (touched refusal.Dark side.Disk 0)
    ∷ Ok cycled
    ∷ found 29 29 18
    ∷ holds 1 3 1
    ∷ Ok (gave (body 9) 1)
    ∷ holds 0 4 28
    ∷ Ok (gave (body 28) 28)
    ∷ []))

-- With one frame, a page that was written has to leave for the next, and comes back from the flash.
abbrev pub evict_calls : List Call
evict_calls =
    mount 1
    ∷ take_page 3
    ∷ write 0 1 239 (5 ∷ [])
    ∷ give_back 0 1
    ∷ take_page 4
    ∷ give_back 0 2
    ∷ take_page 3
    ∷ read 0 3 240
    ∷ []

abbrev pub evict_answers : List (Result Answer Fault)
evict_answers =
    found 0 0 4
    ∷ holds 0 1 0
    ∷ Ok (wrote 1)
    ∷ Ok given
    ∷ Ok (took (record { frame = 0; number = 2; version = 0; evicted = Some 3 }))
    ∷ Ok given
    ∷ Ok (took (record { frame = 0; number = 3; version = 1; evicted = Some 4 }))
    ∷ Ok (gave (replicate 239 0 ++ (5 ∷ [])) 1)
    ∷ []

-- The refusals that a new store meets without a power cut.
abbrev pub refused_calls : List Call
refused_calls =
    take_page 0
    ∷ mount 0
    ∷ mount 17
    ∷ mount 2
    ∷ mount 2
    ∷ take_page 8
    ∷ take_page 0
    ∷ take_page 0
    ∷ take_page 1
    ∷ take_page 2
    ∷ read 1 2 240
    ∷ read 1 1 239
    ∷ write 1 1 240 (0 ∷ [])
    ∷ []

abbrev pub refused_answers : List (Result Answer Fault)
refused_answers =
    Err (plain refusal.Shut)
    ∷ Err (plain refusal.Size)
    ∷ Err (plain refusal.Size)
    ∷ found 0 0 4
    ∷ Err (plain refusal.Up)
    ∷ Err (plain refusal.NoPage)
    ∷ holds 1 1 0
    ∷ Err (plain refusal.Held)
    ∷ holds 0 2 0
    ∷ Err (plain refusal.AllHeld)
    ∷ Err (plain refusal.Stale)
    ∷ Err (plain refusal.Length)
    ∷ Err (plain refusal.Length)
    ∷ []

-- A store of an earlier life that has no hold number left, and one over a flash on which someone else wrote.
abbrev pub spent_store : Store
spent_store = store_over (replicate 33 None) 100 100 most

abbrev pub foreign_store : Store
foreign_store = store_over (slice_set (replicate 33 None) 31 (Some (replicate 256 1))) 100 100 0

-- The last sixteen bytes of a page that can be read.
abbrev pub trailer_bytes : Page → Bytes
trailer_bytes None = []
trailer_bytes (Some bs) = drop 240 bs

-- Page 3 saved n times.
abbrev pub save_calls : ℕ → List Call
save_calls n = mount 2 ∷ take_page 3 ∷ saves 1 1 n 1

pub record Told : Type 0 where
  -- There is a store to begin with, for all charges, and what is told of it are runs.
  pub begins : (cf cd : ℕ) → Fresh (new_store cf cd)
  pub runs : (w : Left) (x : Store) (b : Book) → Run x b → (cs : List Call)
      → Run (store_after w x cs) (book_after w x b cs)
  pub first : answers old (new_store 100 100) first_calls ≡ first_answers
  -- The strike left the new frame, the old one, or none that can be read.
  pub new_stands : answers new (new_store 1 100) struck_calls ≡ struck_answers 2 6 8
  pub old_stands : answers old (new_store 1 100) struck_calls ≡ struck_answers 1 5 7
  pub torn_away : answers torn (new_store 1 100) struck_calls ≡ struck_answers 1 5 7
  -- The book says the same.
  pub new_kept : (book_after new (new_store 1 100) opened struck_calls).kept 0 ≡ record { body = body 8; version = 2 }
  pub torn_kept : (book_after torn (new_store 1 100) opened struck_calls).kept 0 ≡ record { body = body 7; version = 1 }
  pub segment_struck : answers torn (new_store 15 100) segment_calls ≡ segment_answers
  pub by_the_disk : answers old (new_store 100 100) disk_calls ≡ disk_answers
  pub disk_struck : answers torn (new_store 100 0) disk_struck_calls ≡ disk_struck_answers
  -- What stands on the media: the first save's trailer on flash page 0, segment 0's on flash page 30, and on disk page
  -- 0 the trailer of number 1.
  pub frame_bytes : trailer_bytes (page (store_after old (new_store 100 100) (save_calls 1)).queue.flash 0)
      ≡ first_save
  pub segment_bytes : trailer_bytes (page (store_after old (new_store 100 100) (save_calls 15)).queue.flash 30)
      ≡ first_segment
  pub disk_bytes : trailer_bytes (page (store_after old (new_store 100 100) disk_calls).queue.disk 0)
      ≡ encode (record { q = 1; back = 0; version = 1; page = 0; dirty = true })
  pub evicted : answers old (new_store 100 100) evict_calls ≡ evict_answers
  pub refused : answers old (new_store 100 100) refused_calls ≡ refused_answers
  pub spent : answers old spent_store (mount 1 ∷ take_page 0 ∷ []) ≡ found 0 0 4 ∷ Err (plain refusal.Spent) ∷ []
  pub foreign : answers old foreign_store (mount 1 ∷ []) ≡ Err (touched refusal.Foreign side.Flash 31) ∷ []
