-- The front entry leaves the queue: what `dequeue` gives, and `make_room`, which dequeues only where there is no room.
use Rattle.std.proofs.Common.{◌≡◌, ℕ, ◌+◌, ◌-◌, ◌*◌, ◌<◌, ◌≤◌, Bool, true, false, cond, ◌&&◌, eqb, ◌⊎◌, List, [], length, get_or, drop, set, Some, None, Ok, Err, Option, Result, sym, refl, ap, ◌∙◌, subst, inl, inr, arith}
use Rattle.std.proofs.lemmas.Bool.{cases_eq, and_parts, and_cases, eqb-true, eqb-false}
use Rattle.std.proofs.lemmas.List.{length-set, set-get_or, get_or-set_other}
use Rattle.medium.specs.declared.Cause.{Cause}
use Rattle.medium.specs.Meaning.{Bytes, Meaning, Left, old, new, torn, leaves, page}
use Rattle.medium.specs.Outcome.{Outcome, done, refused, struck}
use Rattle.medium.specs.Rules.{written, struck_at}
use Rattle.rules.specs.declared.fault.Fault.{Fault}
use Rattle.rules.specs.declared.fault.Refusal.TheVariants as refusal
use Rattle.rules.specs.declared.fault.Side.TheVariants as side
use Rattle.rules.specs.Refusals.{of_cause, touched}
use Rattle.rules.specs.Steps.{same, then_do, within}
use Rattle.rules.specs.Format.{encode}
use Rattle.rules.specs.Queue.{Queue, frames, place, slot, entry, live, valid, number, with_disk}
use Rattle.rules.specs.Queue.{checked, passed, saved, leave, dequeue, make_room}
use Rattle.rules.proofs.Invariant.{Page, History, hist, trailer, bytes, whole, In, Latest, Saved, Sound}
use Rattle.rules.proofs.Invariant.{Media, Rests, Open, Directory, first}
use Rattle.rules.proofs.Past.{set_at}
use Rattle.rules.proofs.Disk.{saved_less, saved_skip, saved_write, saved_torn}
use Rattle.rules.proofs.Entries.{Valid, valid_is, valid_latest, directory_passed}
use Rattle.rules.proofs.Codec.{same_self, bytes_long, bytes_end}
use Rattle.rules.proofs.Writes.{WriteEnds, kept, hit, unlit, ends, frames_is, slot_is, media_less}

-- Each page of the disk is as it was, or has its last page of the history.
abbrev pub Moved : List (Option Bytes) → List (Option Bytes) → History → Type 0
Moved ps qs h =
    (p : ℕ) → (get_or qs p None ≡ get_or ps p None) ⊎ ((q : ℕ) × Latest h p q × (get_or qs p None ≡ whole h q))

pub unmoved : (ps : List (Option Bytes)) (h : History) → Moved ps ps h
unmoved ps h p = inl refl

-- A medium of the queue is dark.
abbrev pub Unlit : Queue → Type 0
Unlit x = (x.flash.lit ≡ false) ⊎ (x.disk.lit ≡ false)

-- What a dequeue of x may come to: done, the front is g; refused, a medium is dark and nothing changed; struck, the
-- media are as at rest.
abbrev pub Dequeued : ℕ → ℕ → Queue → History → ℕ → ℕ → Outcome Fault Queue (Unit {0}) → Type 0
Dequeued s d x h k g (done a y ws) =
    (ws ≡ []) × Open s d y h k g × Moved x.disk.pages y.disk.pages h × (y.flash ≡ x.flash)
Dequeued s d x h k g (refused e y ws) = (ws ≡ []) × (y ≡ x) × (e.cause ≡ refusal.Dark) × Unlit x
Dequeued s d x h k g (struck e f ws) = (w : Left) → (ws w ≡ []) × Rests s d (f w) h k

-- The media with another disk m, which has what left the queue before g.
media_disk : (s d : ℕ) (x : Queue) (m : Meaning) (h : History) (k f g : ℕ)
    → length m.pages ≡ length x.disk.pages → Saved m.pages h g
    → Media s d x h k f → Media s d (with_disk x m) h k g
media_disk s d x m h k f g long sv me =
    record {
      sizes = record {
        least = me.sizes.least;
        most = me.sizes.most;
        flash = me.sizes.flash;
        disk = long ∙ me.sizes.disk;
        some = me.sizes.some;
        few = me.sizes.few;
      };
      written = me.written;
      framed = me.framed;
      described = me.described;
      saved = sv;
    }

-- What the frame of number q reads as: its page of the history, unless the flash is dark.
abbrev pub read_back : Queue → History → ℕ → Bool → Result Bytes Fault
read_back x h q lit =
    cond lit (Ok (bytes (hist h q))) (Err (touched refusal.Dark side.Flash (slot x (trailer h q).q)))

module _ (s d : ℕ) (x : Queue) (h : History) (k f : ℕ) (me : Media s d x h k f)
    (q : ℕ) (inh : In h q) (near : length h + 2 ≤ q + 15 * s) where
  own_number : (trailer h q).q ≡ q
  own_number = me.written.own q inh

  frame_is : page x.flash (slot x (trailer h q).q) ≡ whole h q
  frame_is =
      ap (λ i. page x.flash (slot x i)) own_number ∙ ap (page x.flash) (slot_is s d x me.sizes q)
      ∙ me.framed.held q inh near

  same_end : same (drop 240 (bytes (hist h q))) (encode (trailer h q)) ≡ true
  same_end =
      let high : (trailer h q).q ≤ 4000000000 = omega (arith, own_number, me.written.short) in
      ap (λ u. same u (encode (trailer h q))) (bytes_end d me.sizes.few (hist h q) high (me.written.sound q inh))
      ∙ same_self (encode (trailer h q))

  pub checked_is : (c : Bool) → x.flash.lit ≡ c → checked x (trailer h q) ≡ read_back x h q c
  checked_is true lit = rw (lit, frame_is, same_end)
  checked_is false off = rw off

-- The queue x with history h and front f, which has an entry.
module _ (s d : ℕ) (x : Queue) (h : History) (k f : ℕ) (op : Open s d x h k f)
    (one : 1 ≤ f) (some : f ≤ length h) (near : length h + 2 ≤ f + 15 * s) where
  -- The page that leaves, its number on the disk, and the disk's pages.
  abbrev e : Page
  e = hist h f

  abbrev p : ℕ
  p = e.trailer.page

  abbrev ps : List (Option Bytes)
  ps = x.disk.pages

  abbrev Gives : Outcome Fault Queue (Unit {0}) → Type 0
  Gives o = Dequeued s d x h k (f + 1) o

  inf : In h f
  inf = (one, some)

  pos : 1 ≤ 15 * s
  pos = omega (arith, op.media.sizes.least)

  slot_at : (q : ℕ) → slot x q ≡ place (15 * s) q
  slot_at q = slot_is s d x op.media.sizes q

  front_is : entry x x.front ≡ Some e.trailer
  front_is =
      ap (λ q. entry x q) op.front ∙ ap (λ i. get_or x.entries i None) (slot_at f)
      ∙ op.directory.there f (omega arith) inf

  own : e.trailer.q ≡ f
  own = op.media.written.own f inf

  sound : Sound d e
  sound = op.media.written.sound f inf

  valid_at : (i : ℕ) → Valid h f i (valid x i)
  valid_at i = valid_is x.entries (15 * s) f d h pos one op.directory op.media.written i

  -- The front has moved on, over a disk m that has what left.
  passed_open : (m : Meaning) → length m.pages ≡ length ps → Saved m.pages h (f + 1)
      → Open s d (passed (with_disk x m)) h k (f + 1)
  passed_open m long sv =
      record {
        media = media_disk s d x m h k f (f + 1) long sv op.media;
        front = ap (λ n. n + 1) op.front;
        last = op.last;
        directory =
            subst (λ i. Directory (set x.entries i None) (15 * s) (f + 1) h)
            (sym (ap (λ q. slot x q) op.front ∙ slot_at f))
            (directory_passed x.entries (15 * s) f h pos one (omega arith) op.directory);
      }

  -- The disk write, where the front is its page's last number, and dirty.
  module _ (l : Latest h p f) (dirty : e.trailer.dirty ≡ true) where
    page_lt : p < length ps
    page_lt = omega (arith, sound.good.page, op.media.sizes.disk)

    written_saved : Saved (set ps p (whole h f)) h (f + 1)
    written_saved = saved_write ps h f p page_lt l op.media.saved

    -- A write that was struck.
    left_saved : (w : Left) → Saved (set ps p (leaves w (page x.disk p) (bytes e))) h f
    left_saved old = subst (λ qs. Saved qs h f) (sym (set-get_or ps p None)) op.media.saved
    left_saved new = saved_less _ h (f + 1) f (omega arith) written_saved
    left_saved torn = saved_torn ps h f p f page_lt l (omega arith) dirty op.media.saved

    left_rests : (w : Left) → Rests s d (with_disk x (struck_at x.disk p (bytes e) w)) h k
    left_rests w =
        let m = struck_at x.disk p (bytes e) w in
        media_less s d (with_disk x m) h k f _ (omega arith)
        (media_disk s d x m h k f f (length-set ps p _) (left_saved w) op.media)

    moved : Moved ps (set ps p (whole h f)) h
    moved i =
        elim (cases_eq i p) [
          | inl eq ↦ inr (f, subst (λ j. Latest h j f) (sym eq) l, set_at ps p i (whole h f) page_lt eq)
          | inr ne ↦ inl (get_or-set_other ps p i (whole h f) None ne)
        ]

    -- What is given after the disk write, by how that write ended.
    abbrev After : Outcome Cause Meaning (Unit {0}) → Type 0
    After o = Gives (then_do (within (of_cause side.Disk p) (with_disk x) o) (λ a y. done tt (passed y) []))

    after_read : WriteEnds x.disk p (bytes e) → Gives (saved x e.trailer (Ok (bytes e)))
    after_read (kept lit is) =
        subst After (sym is)
        (refl, passed_open (written x.disk p (bytes e)) (length-set ps p _) written_saved, moved, refl)
    after_read (hit is) = subst After (sym is) (λ w. (refl, left_rests w))
    after_read (unlit off is) = subst After (sym is) (refl, refl, refl, inr off)

    long : length (bytes e) ≡ 256
    long = bytes_long d op.media.sizes.few e (omega (arith, own, op.media.written.short)) sound

    with_read : (c : Bool) → x.flash.lit ≡ c → Gives (saved x e.trailer (read_back x h f c))
    with_read true lit = after_read (ends x.disk p (bytes e) page_lt long)
    with_read false off = (refl, refl, refl, inl off)

    saves : (c : Bool) → x.flash.lit ≡ c → Gives (saved x e.trailer (checked x e.trailer))
    saves c is =
        let read = checked_is s d x h k f op.media f inf near c is in
        subst (λ r. Gives (saved x e.trailer r)) (sym read) (with_read c is)

  -- The front is its page's last number where the valid entry of that page has the front's number.
  valid_front : number (valid x p) ≡ e.trailer.q → Latest h p f
  valid_front is = go (valid_at p)
    where
      go : Valid h f p (valid x p) → Latest h p f
      go (inl (none, off)) = absurd (off f (omega arith) inf refl)
      go (inr (q, l, low, at)) =
          subst (λ i. Latest h p i) (sym (op.media.written.own q l.there) ∙ sym (ap number at) ∙ is ∙ own) l

  -- A front that is not written is clean, if it is a page's last number.
  skips : (e.trailer.dirty && eqb (number (valid x p)) e.trailer.q) ≡ false
      → (i : ℕ) → Latest h i f → e.trailer.dirty ≡ false
  skips not i l =
      elim (and_cases _ _ not) [
        | inl clean ↦ clean
        | inr off ↦
            let l' : Latest h p f = subst (λ j. Latest h j f) (sym l.page) l in
            let is = valid_latest h f p f (valid x p) (valid_at p) l' (omega arith) in
            absurd (eqb-false (number (valid x p)) e.trailer.q off (ap number is))
      ]

  leaves_front : (b : Bool) → (e.trailer.dirty && eqb (number (valid x p)) e.trailer.q) ≡ b
      → Gives (cond b (saved x e.trailer (checked x e.trailer)) (done tt (passed x) []))
  leaves_front true is =
      let (dirty, at) = and_parts e.trailer.dirty (eqb (number (valid x p)) e.trailer.q) is in
      saves (valid_front (eqb-true _ _ at)) dirty _ refl
  leaves_front false not =
      (refl, passed_open x.disk refl (saved_skip ps h f (skips not) op.media.saved), unmoved ps h, refl)

  pub dequeue_gives : Dequeued s d x h k (f + 1) (dequeue x)
  dequeue_gives = subst (λ o. Gives (leave x o)) (sym front_is) (leaves_front _ refl)

-- Room for one more: the front is where the next number wants it.
module _ (s d : ℕ) (x : Queue) (h : History) (k : ℕ) (op : Open s d x h k (first (15 * s) (length h))) where
  room : (b : Bool) → eqb (live x) (frames x.flash - 1) ≡ b
      → Dequeued s d x h k (first (15 * s) (length h + 1)) (cond b (dequeue x) (done tt x []))
  room true e =
      let n = eqb-true (live x) (frames x.flash - 1) e in
      let c = frames_is s d x op.media.sizes in
      let z = op.media.sizes.least in
      let fr = op.front in
      let la = op.last in
      subst (λ g. Dequeued s d x h k g (dequeue x)) (omega arith)
      (dequeue_gives s d x h k (first (15 * s) (length h)) op (omega arith) (omega arith) (omega arith))
  room false e =
      let n = eqb-false (live x) (frames x.flash - 1) e in
      let c = frames_is s d x op.media.sizes in
      let fr = op.front in
      let la = op.last in
      let g : first (15 * s) (length h) ≡ first (15 * s) (length h + 1) = omega arith in
      (refl, subst (λ g. Open s d x h k g) g op, unmoved x.disk.pages h, refl)

  pub room_gives : Dequeued s d x h k (first (15 * s) (length h + 1)) (make_room x)
  room_gives = room _ refl
