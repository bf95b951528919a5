-- One more page: its frame is written, its entry is made, and the segment that may then be due is written. However
-- these writes end, the media account for the history: with the new page if its frame was left whole, else as it was.
use Rattle.std.proofs.Common.{◌≡◌, ℕ, zero, suc, ◌+◌, ◌-◌, ◌*◌, ◌/◌, ◌%◌, ◌<◌, ◌≤◌, Bool, true, false, cond, eqb, ◌≢◌, ◌⊎◌, List, [], ◌∷◌, ◌++◌, length, get_or, set, Some, None, Option, sym, refl, ap, ◌∙◌, subst, ap₂, subst₂, inl, inr, arith}
use Rattle.std.proofs.lemmas.Bool.{eqb-true, eqb-false}
use Rattle.std.proofs.lemmas.List.{length-set, set-get_or}
use Rattle.medium.specs.Meaning.{Bytes, Left, old, new, torn, leaves, page}
use Rattle.medium.specs.Rules.{written, struck_at}
use Rattle.medium.specs.Outcome.{Outcome, Wrote, done, refused, struck}
use Rattle.rules.specs.declared.fault.Fault.{Fault}
use Rattle.rules.specs.declared.fault.Refusal.TheVariants as refusal
use Rattle.rules.specs.declared.trailer.Trailer.{Trailer}
use Rattle.rules.specs.Steps.{wrote, then_do, after, framed}
use Rattle.rules.specs.Format.{encode, encode_segment, fields}
use Rattle.rules.specs.Queue.{Queue, place, slot, or_zero, run_of, segment_of, segment_page, with_flash, write_flash}
use Rattle.rules.specs.Queue.{entered, write_segment, describe_due, append}
use Rattle.rules.proofs.Invariant.{Page, History, hist, trailer, trailers, bytes, body, segment, In, OnDisk, first}
use Rattle.rules.proofs.Invariant.{Sized, Sound, Written, Framed, Described, Stored, Rests, Directory, Open, Serving}
use Rattle.rules.proofs.Past.{grown, length_grown, place_lt, each}
use Rattle.rules.proofs.Frames.{framed_grown, framed_torn, framed_past}
use Rattle.rules.proofs.Segments.{described_grown, described_before, described_more, described_torn, seat, seat_lt}
use Rattle.rules.proofs.Disk.{saved_grown}
use Rattle.rules.proofs.Entries.{directory_entered}
use Rattle.rules.proofs.Codec.{bytes_long, bytes_fields}
use Rattle.rules.proofs.Bytes.{length_segment}
use Rattle.rules.proofs.Reread.{hist_fields}
use Rattle.rules.proofs.Writes.{WriteEnds, kept, hit, unlit, ends, groups_is, frames_is, slot_is, media_less}

-- The pages of a queue's flash and disk.
abbrev flash : Queue → List (Option Bytes)
flash x = x.flash.pages

abbrev disk : Queue → List (Option Bytes)
disk x = x.disk.pages

-- The media of x, but with v at page i of the flash.
abbrev With : ℕ → ℕ → Queue → ℕ → Option Bytes → History → ℕ → ℕ → Type 0
With s d x i v h k f = Stored s d (set (flash x) i v) (disk x) h k f

-- The sizes stay as one page of the flash changes.
sized_set : (s d : ℕ) (ps qs : List (Option Bytes)) (i : ℕ) (v : Option Bytes) → Sized s d ps qs
    → Sized s d (set ps i v) qs
sized_set s d ps qs i v z =
    record {
      least = z.least;
      most = z.most;
      flash = length-set ps i v ∙ z.flash;
      disk = z.disk;
      some = z.some;
      few = z.few;
    }

-- What describe-due gives, of a queue whose last number just entered.
abbrev pub Settled : ℕ → ℕ → Queue → History → Outcome Fault Queue (Unit {0}) → Type 0
Settled s d x h (done a y ws) = (ws ≡ []) × ((k : ℕ) × Serving s d y h k) × (y.disk ≡ x.disk)
Settled s d x h (refused e y ws) = x.flash.lit ≡ false
Settled s d x h (struck e f ws) = (w : Left) → (ws w ≡ []) × ((k : ℕ) × Rests s d (f w) h k) × ((f w).disk ≡ x.disk)

-- A queue whose last number has entered; k segments were written.
module _ (s d : ℕ) (x : Queue) (h : History) (k : ℕ)
    (op : Open s d x h k (first (15 * s) (length h))) (more : 15 * k < length h) where
  -- The entries of live numbers are their trailers.
  slot_at : (q : ℕ) → slot x q ≡ place (15 * s) q
  slot_at q = slot_is s d x op.media.sizes q

  run_is : (n q : ℕ) → 1 ≤ q → first (15 * s) (length h) ≤ q → q + n ≤ length h + 1 → run_of x n q ≡ trailers h n q
  run_is zero q one low fits = refl
  run_is (suc n) q one low fits =
      let entry_is = ap (λ i. get_or x.entries i None) (slot_at q) ∙ op.directory.there q low (one, omega arith) in
      ap₂ ◌∷◌ (ap or_zero entry_is) (run_is n (q + 1) (omega arith) (omega arith) (omega arith))

  -- Where a segment is due, it is segment k, in its own place.
  module _ (due : length h ≡ 15 * k + 15) where
    abbrev bs : Bytes
    bs = segment s h k

    last_is : x.last ≡ 15 * k + 15
    last_is = op.last ∙ due

    front_is : x.front ≡ first (15 * s) (15 * k + 15)
    front_is = op.front ∙ ap (first (15 * s)) due

    run_due : run_of x 15 (x.last - 14) ≡ trailers h 15 (15 * k + 1)
    run_due =
        let z = op.media.sizes.least in
        let at : x.last - 14 ≡ 15 * k + 1 = omega (arith, last_is) in
        ap (run_of x 15) at ∙ run_is 15 (15 * k + 1) (omega arith) (omega arith) (omega arith)

    segment_is : encode_segment (segment_of x) ≡ bs
    unfolding segment
    segment_is = ap encode_segment (λ i. record { last = last_is i; front = front_is i; entries = run_due i })

    seat_is : segment_page x.flash (x.last / 15 - 1) ≡ seat s k
    seat_is =
        let g : x.last / 15 - 1 ≡ k = omega (arith, last_is) in
        ap (λ n. 15 * n + (x.last / 15 - 1) % (n + 1)) (groups_is s d x op.media.sizes) ∙ ap (seat s) g

    -- The media with v in that place, if j segments then describe h.
    abbrev Seated : Option Bytes → ℕ → Type 0
    Seated v j = With s d x (seat s k) v h j (first (15 * s) (length h))

    seated : (v : Option Bytes) (j : ℕ) → Described (set (flash x) (seat s k) v) s h j → Seated v j
    seated v j ds =
        let z = op.media.sizes in
        record {
          sizes = sized_set s d (flash x) (disk x) (seat s k) v z;
          written = op.media.written;
          framed =
              framed_past (flash x) (15 * s) h (seat s k) v (omega (arith, z.least)) (omega arith) op.media.framed;
          described = ds;
          saved = op.media.saved;
        }

    seated_new : Seated (Some bs) (k + 1)
    seated_new =
        seated (Some bs) (k + 1) (described_more (flash x) s h k op.media.sizes.flash due op.media.described)

    -- Whatever a strike leaves there, the media rest.
    seated_left : (w : Left) → (j : ℕ) × Rests s d (with_flash x (struck_at x.flash (seat s k) bs w)) h j
    seated_left old =
        let same = set-get_or (flash x) (seat s k) None in
        (k, seated (page x.flash (seat s k)) k (subst (λ us. Described us s h k) (sym same) op.media.described))
    seated_left new = (k + 1, seated_new)
    seated_left torn =
        (k, seated None k (described_torn (flash x) s h k op.media.sizes.flash op.media.described))

    -- The segment's write, however it ends.
    after_write : WriteEnds x.flash (seat s k) bs → Settled s d x h (write_flash x (seat s k) bs)
    after_write (kept lit is) =
        rw is (
          refl,
          (
            k + 1,
            record {
              running = record { media = seated_new; front = op.front; last = op.last; directory = op.directory };
              settled = omega arith;
            },
          ),
          refl,
        )
    after_write (hit is) = rw is (λ w. (refl, seated_left w, refl))
    after_write (unlit off is) = rw is off

    pub segment_gives : Settled s d x h (write_segment x)
    segment_gives =
        let low : seat s k < length (flash x) = omega (arith, seat_lt s k, op.media.sizes.flash) in
        subst₂ (λ i us. Settled s d x h (write_flash x i us)) (sym seat_is) (sym segment_is)
        (after_write (ends x.flash (seat s k) bs low (length_segment s h k)))

  -- A segment is due when the last number is a multiple of fifteen.
  due_or_not : (b : Bool) → eqb (x.last % 15) 0 ≡ b → Settled s d x h (cond b (write_segment x) (done tt x []))
  due_or_not true e =
      let n = eqb-true (x.last % 15) 0 e in
      segment_gives (omega (arith, op.last, op.media.described.low, op.media.described.high))
  due_or_not false e =
      let n = eqb-false (x.last % 15) 0 e in
      (refl, (k, record { running = op; settled = omega (arith, n, op.last, op.media.described.high) }), refl)

  pub describe_gives : Settled s d x h (describe_due x)
  describe_gives = due_or_not _ refl

-- Page e may come next after h, where the disk is ps.
pub record Adds (d : ℕ) (ps : List (Option Bytes)) (h : History) (e : Page) : Type 0 where
  pub next : e.trailer.q ≡ length h + 1
  pub room : length h < 4000000000
  pub sound : Sound d e
  pub rising : (q : ℕ) → In h q → (trailer h q).page ≡ e.trailer.page → (trailer h q).version ≤ e.trailer.version
  pub alike : (q : ℕ) → In h q → (trailer h q).page ≡ e.trailer.page → (trailer h q).version ≡ e.trailer.version
      → body h q ≡ e.body
  pub clean : e.trailer.dirty ≡ false → OnDisk ps h e.trailer.page e.trailer.version

-- What Written asks of two numbers q and r with pages x and y.
abbrev Rises : ℕ → Page → ℕ → Page → Type 0
Rises q x r y = q < r → x.trailer.page ≡ y.trailer.page → x.trailer.version ≤ y.trailer.version

abbrev Agrees : Page → Page → Type 0
Agrees x y = x.trailer.page ≡ y.trailer.page → x.trailer.version ≡ y.trailer.version → x.body ≡ y.body

-- A history keeps its order as such a page is added.
pub written_grown : (d : ℕ) (ps : List (Option Bytes)) (h : History) (e : Page) → Adds d ps h e → Written d h
    → Written d (grown h e)
written_grown d ps h e ad wr =
    record {
      short = omega (arith, length_grown h e, ad.room);
      sound = each h e (λ q x. Sound d x) wr.sound ad.sound;
      own = each h e (λ q x. x.trailer.q ≡ q) wr.own ad.next;
      rising = λ q r iq ir.
          each h e (λ i x. Rises i x r (hist (grown h e) r))
          (λ i was. each h e (Rises i (hist h i)) (λ j. wr.rising i j was) (λ lt. ad.rising i was) r ir)
          (λ lt. absurd (omega (arith, lt, ir.1, length_grown h e)))
          q iq;
      alike = λ q r iq ir.
          each h e (λ i x. Agrees x (hist (grown h e) r))
          (λ i was. each h e (λ j. Agrees (hist h i)) (λ j. wr.alike i j was) (ad.alike i was) r ir)
          (each h e (λ j. Agrees e)
          (λ j was pg vs. sym (ad.alike j was (sym pg) (sym vs)))
          (λ pg vs. refl) r ir)
          q iq;
    }

-- The history after a rule with the frame writes ws, of which one may have been e's.
abbrev pub Grows : History → Page → List Wrote → History → Type 0
Grows h e ws g =
    ((g ≡ grown h e) × (ws ≡ wrote (bytes e) (Some (bytes e)) ∷ []))
    ⊎ ((g ≡ h) × ((ws ≡ []) ⊎ ((l : Option Bytes) × (l ≢ Some (bytes e)) × (ws ≡ wrote (bytes e) l ∷ []))))

-- What append gives, of page e.
abbrev pub Appended : ℕ → ℕ → Queue → History → Page → Outcome Fault Queue (Unit {0}) → Type 0
Appended s d x h e (done a y ws) =
    (ws ≡ wrote (bytes e) (Some (bytes e)) ∷ [])
    × ((k : ℕ) × Serving s d y (grown h e) k)
    × (y.disk ≡ x.disk)
Appended s d x h e (refused er y ws) =
    (ws ≡ [])
    × (y ≡ x)
    × (er.cause ≡ refusal.Dark)
    × (x.flash.lit ≡ false)
Appended s d x h e (struck er f ws) = (w : Left) → (g : History) × (k : ℕ) × Rests s d (f w) g k × Grows h e (ws w) g

-- The frame of e was written, and what was due after it gave o.
finish : (s d : ℕ) (x y : Queue) (h : History) (e : Page) → y.flash.lit ≡ true → y.disk ≡ x.disk
    → (o : Outcome Fault Queue (Unit {0})) → Settled s d y (grown h e) o
    → Appended s d x h e (after (wrote (bytes e) (Some (bytes e)) ∷ []) o)
finish s d x y h e lit same (done a z ws) (nil, sv, alike) =
    (ap (λ vs. wrote (bytes e) (Some (bytes e)) ∷ vs) nil, sv, alike ∙ same)
finish s d x y h e lit same (refused er z ws) off = let z : ◌≡◌ {A = ℕ} 0 1 = cc in absurd (omega arith)
finish s d x y h e lit same (struck er f ws) left =
    λ w. let (nil, (k, rests), here) = left w in
    (grown h e, k, rests, inl (refl, ap (λ vs. wrote (bytes e) (Some (bytes e)) ∷ vs) nil))

-- A page of a trailer and a body, and its bytes.
abbrev pub paged : Trailer → Bytes → Page
paged t b = record { trailer = t; body = b }

paged_bytes : (t : Trailer) (b : Bytes) → bytes (paged t b) ≡ b ++ encode t
unfolding bytes
paged_bytes t b = refl

-- A queue that has room for the next number, and the page e that is to get it.
module _ (s d : ℕ) (x : Queue) (h : History) (k : ℕ)
    (op : Open s d x h k (first (15 * s) (length h + 1))) (settled : length h < 15 * k + 15)
    (e : Page) (ad : Adds d x.disk.pages h e) where
  -- The place of the next number, and the front once it has entered.
  abbrev here : ℕ
  here = place (15 * s) (length h + 1)

  abbrev front : ℕ
  front = first (15 * s) (length h + 1)

  -- How these lie among the frames.
  here_is : slot x e.trailer.q ≡ here
  here_is = ap₂ place (frames_is s d x op.media.sizes) ad.next

  some_frames : 1 ≤ 15 * s
  some_frames = omega (arith, op.media.sizes.least)

  frames_lt : 15 * s ≤ length (flash x)
  frames_lt = omega (arith, op.media.sizes.flash)

  here_lt : here < 15 * s
  here_lt = place_lt (15 * s) (length h + 1) some_frames

  front_le : front ≤ length h + 1
  front_le = omega (arith, op.media.sizes.least)

  high : e.trailer.q ≤ 4000000000
  high = omega (arith, ad.next, ad.room)

  -- The media with v in the frame of the next number, and history g.
  abbrev Placed : Option Bytes → History → Type 0
  Placed v g = With s d x here v g k front

  -- The frame was left with the new page.
  media_grown : Placed (Some (bytes e)) (grown h e)
  media_grown =
      let me = op.media in
      record {
        sizes = sized_set s d (flash x) (disk x) here (Some (bytes e)) me.sizes;
        written = written_grown d (disk x) h e ad me.written;
        framed = framed_grown (flash x) (15 * s) h e some_frames frames_lt me.framed;
        described =
            described_before (flash x) s (grown h e) k here (Some (bytes e)) here_lt
            (described_grown (flash x) s h e k settled me.described);
        saved = saved_grown (disk x) h e front front_le ad.clean me.saved;
      }

  -- It was left as it was, or unreadable.
  media_old : (v : Option Bytes) → Framed (set (flash x) here v) (15 * s) h → Placed v h
  media_old v fr =
      let me = op.media in
      record {
        sizes = sized_set s d (flash x) (disk x) here v me.sizes;
        written = me.written;
        framed = fr;
        described = described_before (flash x) s h k here v here_lt me.described;
        saved = me.saved;
      }

  -- The front is that of the grown history.
  grown_front : front ≡ first (15 * s) (length (grown h e))
  grown_front = ap (first (15 * s)) (sym (length_grown h e))

  -- The page that stands there is another: its number is lower.
  other : page x.flash here ≢ Some (bytes e)
  other is =
      let (q, inh, low, at, eq) = op.media.framed.only here (bytes e) here_lt is in
      let wr = op.media.written in
      let few = op.media.sizes.few in
      let NewIs = bytes_fields d few e high ad.sound in
      let same = sym NewIs ∙ ap (λ bs. fields bs 240) eq ∙ hist_fields d few h wr q inh in
      omega (arith, ad.next, wr.own q inh, ap (λ (t : Trailer). t.q) same, inh.1)

  -- Whatever a strike leaves there, the media rest, with the old history or the new.
  abbrev struck_queue : Left → Queue
  struck_queue w = with_flash x (struck_at x.flash here (bytes e) w)

  abbrev left_page : Left → Option Bytes
  left_page w = leaves w (page x.flash here) (bytes e)

  rest_old : (w : Left) → Framed (set (flash x) here (left_page w)) (15 * s) h → Rests s d (struck_queue w) h k
  rest_old w fr = media_less s d (struck_queue w) h k front _ (omega arith) (media_old (left_page w) fr)

  left : (w : Left) → (g : History) × (j : ℕ) × Rests s d (struck_queue w) g j
      × Grows h e (wrote (bytes e) (left_page w) ∷ []) g
  left old =
      let same = set-get_or (flash x) here None in
      let fr = subst (λ us. Framed us (15 * s) h) (sym same) op.media.framed in
      (h, k, rest_old old fr, inr (refl, inr (page x.flash here, other, refl)))
  left new = (
    grown h e,
    k,
    subst (λ f. With s d x here (Some (bytes e)) (grown h e) k f) grown_front media_grown,
    inl (refl, refl),
  )
  left torn =
      let fr = framed_torn (flash x) (15 * s) h some_frames frames_lt op.media.framed in
      let differs : ◌≢◌ {A = Option Bytes} None (Some (bytes e)) = λ eq. let z : ◌≡◌ {A = ℕ} 0 1 = cc in omega arith in
      (h, k, rest_old torn fr, inr (refl, inr (None, differs, refl)))

  -- The frame was written, and then the entry made.
  abbrev wrote_frame : Queue
  wrote_frame = with_flash x (written x.flash here (bytes e))

  abbrev next : Queue
  next = entered wrote_frame e.trailer

  next_directory : Directory next.entries (15 * s) front (grown h e)
  next_directory =
      let slot_here = ap₂ place (frames_is s d wrote_frame media_grown.sizes) ad.next in
      let room : length h + 1 < front + 15 * s = omega (arith, op.media.sizes.least) in
      subst (λ i. Directory (set x.entries i (Some e.trailer)) (15 * s) front (grown h e)) (sym slot_here)
      (directory_entered x.entries (15 * s) front h e some_frames front_le room op.directory)

  next_open : Open s d next (grown h e) k (first (15 * s) (length (grown h e)))
  next_open =
      subst (λ f. Open s d next (grown h e) k f) grown_front
      (record {
        media = media_grown;
        front = op.front;
        last = ad.next ∙ sym (length_grown h e);
        directory = next_directory;
      })

  -- Append, with any place and bytes for those of the frame.
  abbrev put : ℕ → Bytes → Outcome Fault Queue (Unit {0})
  put i bs = then_do (framed (page x.flash i) bs (write_flash x i bs)) (λ a y. describe_due (entered y e.trailer))

  -- The frame's write, however it ends.
  after_frame : WriteEnds x.flash here (bytes e) → Appended s d x h e (put here (bytes e))
  after_frame (kept lit is) =
      rw is
      (finish s d x next h e refl refl _
      (describe_gives s d next (grown h e) k next_open (omega (arith, length_grown h e, op.media.described.low))))
  after_frame (hit is) = rw is left
  after_frame (unlit off is) = rw is (refl, refl, refl, off)

  pub append_gives : Appended s d x h e (append x e.trailer e.body)
  append_gives =
      let long = bytes_long d op.media.sizes.few e high ad.sound in
      subst₂ (λ i bs. Appended s d x h e (put i bs)) (sym here_is) (paged_bytes e.trailer e.body)
      (after_frame (ends x.flash here (bytes e) (omega (arith, here_lt, frames_lt)) long))
