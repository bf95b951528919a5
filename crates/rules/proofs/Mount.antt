-- A mount: the queue goes on with the same history. What `recover` gives, on media at rest with the flash lit.
use Rattle.std.proofs.Common.{◌≡◌, ℕ, zero, suc, ◌+◌, ◌-◌, ◌*◌, ◌<◌, ◌≤◌, min, Bool, true, false, cond, eqb, List, [], length, get_or, None, Ok, Option, sym, refl, ap, ◌∙◌, subst, ap₂, arith}
use Rattle.std.proofs.lemmas.Bool.{eqb-true, eqb-false}
use Rattle.medium.specs.Meaning.{Left, size}
use Rattle.medium.specs.Outcome.{Outcome, done, refused, struck}
use Rattle.rules.specs.declared.fault.Fault.{Fault}
use Rattle.rules.specs.declared.state.Mounted.{Mounted}
use Rattle.rules.specs.declared.trailer.Trailer.{Trailer}
use Rattle.rules.specs.Format.{Segment}
use Rattle.rules.specs.Queue.{Queue, groups, frames, live, write_segment}
use Rattle.rules.specs.Recovery.{Tail, Entries, read_segments, newest, last_of, front_of, read_tail, gather, front_at}
use Rattle.rules.specs.Recovery.{settle, with_directory, with_tail, with_segments, recover}
use Rattle.rules.proofs.Invariant.{History, Directory, Stored, Rests, Open, Serving, first, trailers}
use Rattle.rules.proofs.Bytes.{length_trailers}
use Rattle.rules.proofs.Append.{Settled, segment_gives}
use Rattle.rules.proofs.Reread.{top_of, Seen, segments_read, newest_top, tail_read, gathered}

-- What a recovery of x may come to. Done: the queue serves, its disk is as it was, and the answer has the last number
-- and the count of reads. It is never refused. Struck: the media are at rest.
abbrev pub Recovered : Queue → History → ℕ → Outcome Fault Queue Mounted → Type 0
Recovered x h k (done a y ws) =
    (ws ≡ [])
    × ((j : ℕ) × Serving (groups x.flash) (size x.disk) y h j)
    × (y.disk ≡ x.disk)
    × (a.last ≡ length h)
    × (a.reads ≡ groups x.flash + 1 + min (length h - 15 * k + 1) 15)
Recovered x h k (refused e y ws) = ⊥
Recovered x h k (struck e f ws) =
    (w : Left) → (ws w ≡ []) × ((j : ℕ) × Rests (groups x.flash) (size x.disk) (f w) h j)

-- The last of k segments: its last number, and its front, which is not past the queue's.
last_top : (s : ℕ) (h : History) (k : ℕ) → last_of (top_of s h k) ≡ 15 * k
last_top s h zero = refl
last_top s h (suc k) = omega arith

front_top : (s : ℕ) (h : History) (k : ℕ) → 15 * k ≤ length h
    → front_of (top_of s h k) ≤ first (15 * s) (length h)
front_top s h zero le = omega arith
front_top s h (suc k) le = omega arith

module _ (x : Queue) (h : History) (k : ℕ) (me : Rests (groups x.flash) (size x.disk) x h k)
    (lit : x.flash.lit ≡ true) where
  -- The groups of the flash, the pages of the disk, and the front that is sought.
  abbrev s : ℕ
  s = groups x.flash

  abbrev d : ℕ
  d = size x.disk

  abbrev front : ℕ
  front = first (frames x.flash) (length h)

  -- The trailers of the numbers after the last segment, as the tail has them.
  abbrev after : List Trailer
  after = trailers h (length h - 15 * k) (15 * k + 1)

  abbrev tail : Tail
  tail = record { trailers = after; reads = min (length h - 15 * k + 1) 15 }

  low : 2 ≤ s
  low = me.sizes.least

  count : length after ≡ length h - 15 * k
  count = length_trailers h (length h - 15 * k) (15 * k + 1)

  -- After the write of a missing segment.
  settled_is : (a : Mounted) (y : Queue) → y.disk ≡ x.disk → y.flash.lit ≡ true → a.last ≡ length h
      → a.reads ≡ s + 1 + tail.reads → (o : Outcome Fault Queue (Unit {0})) → Settled s d y h o
      → Recovered x h k (settle x a o)
  settled_is a y same on la re (done u z ws) (nil, sv, kept) = (nil, sv, kept ∙ same, la, re)
  settled_is a y same on la re (refused e z ws) off = let z : ◌≡◌ {A = ℕ} 0 1 = cc in omega arith
  settled_is a y same on la re (struck e f ws) left =
      λ w. let (nil, (j, rests), kept) = left w in
      (nil, (j, subst (λ m. Stored s d (f w).flash.pages m.pages h j front) (kept ∙ same) rests))

  -- The segment pages, as they are read.
  abbrev AllSeen : List (Option Segment) → Type 0
  AllSeen gs = (i : ℕ) → i < s + 1 → Seen x.flash h k i (get_or gs i None)

  read_all : (gs : List (Option Segment)) × (read_segments x.flash d (s + 1) 0 ≡ Ok gs)
      × (length gs ≡ s + 1) × AllSeen gs
  read_all = segments_read x.flash d h k low me.sizes.few lit me.written me.framed me.described

  module _ (gs : List (Option Segment)) (len : length gs ≡ s + 1) (each : AllSeen gs) where
    top : newest gs ≡ top_of s h k
    top = newest_top x.flash d h k low me.sizes.few lit me.written me.framed me.described gs len each

    last_is : last_of (newest gs) ≡ 15 * k
    last_is = ap last_of top ∙ last_top s h k

    tail_is : read_tail x.flash d 15 (last_of (newest gs) + 1) ≡ Ok tail
    tail_is =
        ap (λ b. read_tail x.flash d 15 (b + 1)) last_is
        ∙ tail_read x.flash d h k low me.sizes.few lit me.written me.framed me.described

    -- The last number and the front that are found.
    abbrev r : ℕ
    r = last_of (newest gs) + length after

    abbrev f : ℕ
    f = front_at x.flash (newest gs) r

    r_is : r ≡ length h
    r_is = omega (arith, count, last_is, me.described.low)

    f_is : f ≡ front
    f_is = omega (arith, r_is, ap front_of top, front_top s h k me.described.low)

    -- The directory, by the numbers that are sought, and by those that are found.
    sought : (es : Entries) × (gather x.flash gs (15 * k) after (length h + 1 - front) front ≡ Ok es)
        × Directory es (frames x.flash) front h
    sought =
        gathered x.flash d h k low me.sizes.few lit me.written me.framed me.described gs len each
        (omega (arith, me.sizes.most)) (length h + 1 - front) front (omega arith) (omega arith)

    entries : (es : Entries) × (gather x.flash gs (last_of (newest gs)) after (r + 1 - f) f ≡ Ok es)
        × Directory es (frames x.flash) front h
    entries =
        let (es, is, di) = sought in
        let live_is : r + 1 - f ≡ length h + 1 - front = ap₂ (λ a b. a + 1 - b) r_is f_is in
        (es, (λ i. gather x.flash gs (last_is i) after (live_is i) (f_is i)) ∙ is, di)

    -- The queue with its directory, which may still lack its last segment.
    module _ (es : Entries) (di : Directory es (frames x.flash) front h) where
      abbrev ready : Queue
      ready = record { flash = x.flash; disk = x.disk; front = f; last = r; entries = es }

      ready_open : Open s d ready h k front
      ready_open = record { media = me; front = f_is; last = r_is; directory = di }

      abbrev answer : Mounted
      answer = record { last = r; live = live ready; reads = s + 1 + tail.reads }

      by_count : (c : Bool) → eqb (length after) 15 ≡ c
          → Recovered x h k (cond c (settle x answer (write_segment ready)) (done answer ready []))
      by_count true e =
          let n = eqb-true (length after) 15 e in
          settled_is answer ready refl lit r_is refl (write_segment ready)
          (segment_gives s d ready h k ready_open (omega (arith, count)) (omega (arith, count)))
      by_count false e =
          let n = eqb-false (length after) 15 e in
          let settled : length h < 15 * k + 15 = omega (arith, count, me.described.high) in
          (refl, (k, record { running = ready_open; settled = settled }), refl, r_is, refl)

    after_segments : Recovered x h k (with_segments x (Ok gs))
    after_segments =
        let (es, is, di) = entries in
        subst (λ t. Recovered x h k (with_tail x gs t)) (sym tail_is)
        (subst (λ e. Recovered x h k (with_directory x (newest gs) tail e)) (sym is) (by_count es di _ refl))

  pub recover_gives : Recovered x h k (recover x)
  recover_gives =
      let (gs, is, len, each) = read_all in
      subst (λ r. Recovered x h k (with_segments x r)) (sym is) (after_segments gs len each)

  -- The last number that the newest segment describes.
  pub newest_last : (gs : List (Option Segment))
      × (read_segments x.flash (size x.disk) (groups x.flash + 1) 0 ≡ Ok gs) × (last_of (newest gs) ≡ 15 * k)
  newest_last = let (gs, is, len, each) = read_all in (gs, is, last_is gs len each)
