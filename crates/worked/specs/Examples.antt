-- Worked facts: the rules' numbers and bytes in cases that were worked out by hand.
use Rattle.std.specs.Prelude.{◌≡◌, ℕ, ◌+◌, ◌<◌, true, ◌≢◌, List, [], ◌∷◌, length, drop, Some}
use Rattle.medium.specs.Meaning.{Bytes, Meaning, size}
use Rattle.medium.specs.Outcome.{done}
use Rattle.media.specs.Card.{tick, next_tick}
use Rattle.rules.specs.declared.fault.Refusal.TheVariants as refusal
use Rattle.rules.specs.declared.state.Mounted.{Mounted}
use Rattle.rules.specs.declared.state.State.TheVariants as state
use Rattle.rules.specs.declared.trailer.Trailer.{Trailer}
use Rattle.rules.specs.Format.{Segment, encode, encode_segment, most}
use Rattle.rules.specs.Queue.{Queue, groups, frames, place, segment_page, next}
use Rattle.rules.specs.Recovery.{front_at, no_entries}
use Rattle.rules.specs.Ram.{card_at, is_held}
use Rattle.rules.specs.Store.{Store, step, write, wrote, mounted, written_frame, refuse}
use Rattle.rules.specs.Promise.{tail_of, reports}

-- A flash of 33 pages, which is two groups.
pub record TwoGroups (m : Meaning) : Type 0 where
  pub groups_are : groups m ≡ 2
  pub frames_are : frames m ≡ 30
  pub number_1 : place (frames m) 1 ≡ 0
  pub number_30 : place (frames m) 30 ≡ 29
  pub number_31 : place (frames m) 31 ≡ 0
  pub segment_0 : segment_page m 0 ≡ 30
  pub segment_2 : segment_page m 2 ≡ 32
  pub segment_3 : segment_page m 3 ≡ 30
  -- With a newest segment of front 2 and the last number 40 the front is 12.
  pub front : (g : Segment) → g.front ≡ 2 → front_at m (Some g) 40 ≡ 12

-- What a mount reports over it, by how many frames it accepted after the newest segment.
pub record MountReads (x : Store) (a : Mounted) : Type 0 where
  pub after_0 : tail_of x a ≡ 0 → a.reads ≡ 4
  pub after_14 : tail_of x a ≡ 14 → a.reads ≡ 18
  pub after_15 : tail_of x a ≡ 15 → a.reads ≡ 18

-- Writes of the byte k at the end of a body, by a good hold.
pub record BodyEnd (x : Store) (f n k : ℕ) : Type 0 where
  pub last_byte : step x (write f n 239 (k ∷ []))
      ≡ done (wrote ((card_at x.ram f).version + 1)) (written_frame x f 239 (k ∷ [])) []
  pub no_byte : step x (write f n 240 [])
      ≡ done (wrote ((card_at x.ram f).version + 1)) (written_frame x f 240 []) []
  pub past_end : step x (write f n 240 (k ∷ [])) ≡ refuse refusal.Length x

-- The trailer of number 1, the first save of page 3: q 1, back 0, version 1, page 3, dirty.
abbrev pub first_save : Bytes
first_save =
    0x01 ∷ 0x00 ∷ 0x00 ∷ 0x00
    ∷ 0x00 ∷ 0x00 ∷ 0x00 ∷ 0x00
    ∷ 0x01 ∷ 0x00 ∷ 0x00 ∷ 0x00
    ∷ 0x03 ∷ 0x00 ∷ 0x01 ∷ 0x01
    ∷ []

-- The end of segment 0, written with front 1: last 15, front 1, first 1, fifteen entries.
abbrev pub first_segment : Bytes
first_segment =
    0x0F ∷ 0x00 ∷ 0x00 ∷ 0x00
    ∷ 0x01 ∷ 0x00 ∷ 0x00 ∷ 0x00
    ∷ 0x01 ∷ 0x00 ∷ 0x00 ∷ 0x00
    ∷ 0x0F ∷ 0x00 ∷ 0x00 ∷ 0x02
    ∷ []

pub record Worked : Type 0 where
  pub two_groups : (m : Meaning) → size m ≡ 33 → TwoGroups m
  pub mount_reads : (x : Store) (a : Mounted) → size x.queue.flash ≡ 33 → reports x (mounted a) → MountReads x a
  -- The first save of page 3, by a queue that was never used.
  pub first_trailer : (x : Queue) → x.last ≡ 0 → x.entries ≡ no_entries
      → encode (next x 3 1 true) ≡ first_save
  -- The end of segment 0, whatever its fifteen entries are.
  pub segment_end : (ts : List Trailer) → length ts ≡ 15
      → drop 240 (encode_segment (record { last = 15; front = 1; entries = ts })) ≡ first_segment
  pub body_end : (x : Store) (f n k : ℕ) → x.state ≡ state.Up → is_held x.ram f n ≡ true
      → (card_at x.ram f).version ≢ most → BodyEnd x f n k
  -- A card page whose ticks are all 4 takes tick 1 next.
  pub after_tick_4 : (bs : Bytes) (i : ℕ) → ((s : ℕ) → s < 16 → tick bs i s ≡ 4) → next_tick bs i ≡ 1
