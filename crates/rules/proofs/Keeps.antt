-- What a step of the store keeps: the invariant, with the book that its frame writes feed. An enqueue keeps it.
use Rattle.std.proofs.Common.{◌≡◌, ℕ, ◌+◌, ◌<◌, ◌≤◌, false, cond, ◌≢◌, List, [], ◌∷◌, ◌++◌, length, Some, None, Option, sym, refl, ap, ◌∙◌, subst, inl, inr, arith}
use Rattle.std.proofs.lemmas.Bool.{cases_Bool}
use Rattle.medium.specs.Meaning.{Bytes, Left, size}
use Rattle.medium.specs.Outcome.{Outcome, Wrote, done, refused, struck}
use Rattle.rules.specs.declared.fault.Fault.{Fault}
use Rattle.rules.specs.declared.state.State.{State}
use Rattle.rules.specs.declared.state.State.TheVariants as state
use Rattle.rules.specs.declared.table.Card.{Card}
use Rattle.rules.specs.declared.trailer.Trailer.{Trailer}
use Rattle.rules.specs.Steps.{wrote, then_do, after, same}
use Rattle.rules.specs.Format.{fields}
use Rattle.rules.specs.Ram.{card_at, body_at, with_card, cleaned}
use Rattle.rules.specs.Queue.{Queue}
use Rattle.rules.specs.Store.{Store, with_ram, with_queue, with_state, on_queue, enqueue_frame}
use Rattle.rules.specs.Book.{Book, Copy, keep, stands, one_frame, frames}
use Rattle.rules.proofs.Invariant.{Pages, Page, History, bytes, Rests, Sound, Written}
use Rattle.rules.proofs.Invariant.{Kept, Filled, InRam, Running, by, Invariant}
use Rattle.rules.proofs.Past.{grown, length_grown, hist_new, trailer_new, in_new}
use Rattle.rules.proofs.Codec.{same_self, same_is, bytes_fields}
use Rattle.rules.proofs.Dequeue.{unmoved}
use Rattle.rules.proofs.Append.{Grows}
use Rattle.rules.proofs.Enqueue.{Offers, Made, Enqueued, enqueue_gives}
use Rattle.rules.proofs.Ram.{kept_grown, saved_in}
use Rattle.rules.proofs.Frame.{kept_less}

-- Where a step is done, P holds of its answer, its store and the book; otherwise the invariant holds.
abbrev pub Keeps : {A : Type 0} → Book → (A → Store → Book → Type 0) → Outcome Fault Store A → Type 0
Keeps b P (done a y ws) = P a y (frames b ws)
Keeps b P (refused e y ws) = Invariant y (frames b ws)
Keeps b P (struck e f ws) = (w : Left) → Invariant (f w) (frames b (ws w))

-- One step after another.
frames_append : (b : Book) (ws vs : List Wrote) → frames b (ws ++ vs) ≡ frames (frames b ws) vs
frames_append b [] vs = refl
frames_append b (w ∷ ws) vs = frames_append (one_frame b w) ws vs

keeps_after : {A : Type 0} (b : Book) (P : A → Store → Book → Type 0) (ws : List Wrote) (o : Outcome Fault Store A)
    → Keeps (frames b ws) P o → Keeps b P (after ws o)
keeps_after b P ws (done a y vs) k = subst (λ c. P a y c) (sym (frames_append b ws vs)) k
keeps_after b P ws (refused e y vs) k = subst (λ c. Invariant y c) (sym (frames_append b ws vs)) k
keeps_after b P ws (struck e f vs) k =
    λ w. subst (λ c. Invariant (f w) c) (sym (frames_append b ws (vs w))) (k w)

pub keeps_then : {A B : Type 0} (b : Book) (P : A → Store → Book → Type 0) (Q : B → Store → Book → Type 0)
    (o : Outcome Fault Store A) (k : A → Store → Outcome Fault Store B)
    → Keeps b P o → ((a : A) (y : Store) (c : Book) → P a y c → Keeps c Q (k a y))
    → Keeps b Q (then_do o k)
keeps_then b P Q (done a y ws) k now next = keeps_after b Q ws (k a y) (next a y (frames b ws) now)
keeps_then b P Q (refused e y ws) k now next = now
keeps_then b P Q (struck e f ws) k now next = now

-- A store that is up, and one that went dark.
pub runs : (x : Store) (b : Book) → x.state ≡ state.Up → Running x b → Invariant x b
runs x b st ru = subst (λ s. by s x b) (sym st) ru

dark_not_shut : ◌≢◌ {A = State} state.Dark state.Shut
dark_not_shut e = let z : ◌≡◌ {A = ℕ} 0 1 = cc in omega arith

pub rests : (x : Store) (b : Book) (s d : ℕ) (h : History) (k : ℕ) → Rests s d x.queue h k → Kept b h
    → Invariant (with_state x state.Dark) b
rests x b s d h k re kp =
    record { s = s; d = d; h = h; k = k; media = re; kept = kp; lit = λ e. absurd (dark_not_shut e) }

-- The book after a frame write that was left whole, and after one that was not.
frames_one : (b : Book) (p d : ℕ) (e : Page) → d ≤ 240 → e.trailer.q ≤ 4000000000 → Sound d e
    → e.trailer.page ≡ p → frames b (wrote (bytes e) (Some (bytes e)) ∷ []) ≡ keep b p
frames_one b p d e few high so is =
    ap (λ t. cond t (keep b (fields (bytes e) 240).page) b) (same_self (bytes e))
    ∙ ap (keep b) (ap (λ (t : Trailer). t.page) (bytes_fields d few e high so) ∙ is)

stands_not : (bs : Bytes) (l : Option Bytes) → l ≢ Some bs → stands bs l ≡ false
stands_not bs None ne = refl
stands_not bs (Some xs) ne =
    elim (cases_Bool (same xs bs)) [ inl is ↦ absurd (ne (ap Some (same_is xs bs is))) | inr not ↦ not ]

frames_not : (b : Book) (e : Page) (l : Option Bytes) → l ≢ Some (bytes e) → frames b (wrote (bytes e) l ∷ []) ≡ b
frames_not b e l ne = ap (λ t. cond t (keep b (fields (bytes e) 240).page) b) (stands_not (bytes e) l ne)

-- The queue took the page of frame f, whose card is still to be marked.
abbrev pub Cleaned : Store → ℕ → Unit {0} → Store → Book → Type 0
Cleaned x f u y c =
    Running (with_ram y (with_card x.ram f (cleaned (card_at x.ram f)))) c
    × (y.ram ≡ x.ram)
    × (y.state ≡ state.Up)
    × (y.holds ≡ x.holds)
    × (size y.queue.disk ≡ size x.queue.disk)

-- A store that is up, with page p in frame f, of a version above 0.
module _ (x : Store) (b : Book) (st : x.state ≡ state.Up) (ru : Running x b) (f p : ℕ) (lt : f < x.ram.count)
    (is : (card_at x.ram f).page ≡ Some p) (must : 1 ≤ (card_at x.ram f).version) where
  abbrev card : Card
  card = card_at x.ram f

  abbrev ps : Pages
  ps = x.queue.disk.pages

  abbrev h : History
  h = ru.h

  media : Rests ru.s ru.d x.queue h ru.k
  media = ru.serving.running.media

  fi : Filled ps b h p card (body_at x.ram f)
  fi = ru.in_ram.filled f p is

  offers : Offers ru.d ps h p card.version card.dirty (body_at x.ram f)
  offers =
      record {
        within = omega (arith, fi.within, media.sizes.disk);
        long = fi.long;
        some = must;
        few = ru.in_ram.versions f;
        rising = λ q l.
            let same = ap (λ (k : Copy). k.version) (ru.kept.last p q l) in
            omega (arith, same, kept_less x.ram x.holds ps b h ru.in_ram f p is);
        alike = λ q l eq.
            let same = ap (λ (k : Copy). k.version) (ru.kept.last p q l) in
            elim (cases_Bool card.fdirty) [
              | inl new ↦ absurd (omega (arith, same, eq, (fi.newer new).0))
              | inr old ↦ ap (λ (k : Copy). k.body) (sym (ru.kept.last p q l) ∙ fi.clean old)
            ];
        clean = λ e. fi.on_disk e must;
      }

  -- The page e of the history that is made of it, and the book and the history with it.
  abbrev M : Page → Type 0
  M = Made p card.version card.dirty (body_at x.ram f)

  kept_one : (e : Page) → M e → Written ru.d (grown h e)
      → frames b (wrote (bytes e) (Some (bytes e)) ∷ []) ≡ keep b p
  kept_one e ma wr =
      let new = length h + 1 in
      let so = subst (λ z. Sound ru.d z) (hist_new h e) (wr.sound new (in_new h e)) in
      let own : e.trailer.q ≡ new = rw (trailer_new h e) at (wr.own new (in_new h e)) in
      frames_one b p ru.d e media.sizes.few (omega (arith, own, wr.short, length_grown h e)) so ma.page

  book_grown : (e : Page) → M e → Kept (keep b p) (grown h e)
  book_grown e ma =
      kept_grown ru.d x.ram x.holds ps ps b h ru.in_ram media.written ru.kept refl (unmoved ps h)
      f p lt is e ma

  -- A store that went dark on the way: with or without the page in its history.
  fed_dark : (y : Queue) (ws : List Wrote) (g i : History) (j : ℕ) (c : Book)
      → Rests ru.s ru.d y g j → g ≡ i → frames b ws ≡ c → Kept c i
      → Invariant (with_state (with_queue x y) state.Dark) (frames b ws)
  fed_dark y ws g i j c re eq book kp =
      rests (with_queue x y) (frames b ws) ru.s ru.d i j (subst (λ z. Rests ru.s ru.d y z j) eq re)
      (subst (λ z. Kept z i) (sym book) kp)

  went_dark : (y : Queue) (ws : List Wrote) (e : Page) (g : History) (j : ℕ) → M e → Rests ru.s ru.d y g j
      → Grows h e ws g → Invariant (with_state (with_queue x y) state.Dark) (frames b ws)
  went_dark y ws e g j ma re (inl (eq, one)) =
      let wr : Written ru.d (grown h e) = subst (λ i. Written ru.d i) eq re.written in
      fed_dark y ws g (grown h e) j (keep b p) re eq (ap (frames b) one ∙ kept_one e ma wr) (book_grown e ma)
  went_dark y ws e g j ma re (inr (eq, inl nil)) = fed_dark y ws g h j b re eq (ap (frames b) nil) ru.kept
  went_dark y ws e g j ma re (inr (eq, inr (l, ne, one))) =
      fed_dark y ws g h j b re eq (ap (frames b) one ∙ frames_not b e l ne) ru.kept

  -- What the queue comes to, the store keeps.
  queue_keeps : (o : Outcome Fault Queue (Unit {0})) → Enqueued ru.s ru.d x.queue h ru.k M o
      → Keeps b (Cleaned x f) (on_queue x o)
  queue_keeps (done a y ws) (e, ma, one, (j, sv), mv) =
      let book : frames b ws ≡ keep b p = ap (frames b) one ∙ kept_one e ma sv.running.media.written in
      let long : size y.disk ≡ length ps = sv.running.media.sizes.disk ∙ sym media.sizes.disk in
      let marked = with_card x.ram f (cleaned card) in (
        record {
          s = ru.s;
          d = ru.d;
          h = grown h e;
          k = j;
          serving = sv;
          kept = subst (λ c. Kept c (grown h e)) (sym book) (book_grown e ma);
          in_ram =
              subst (λ c. InRam marked x.holds y.disk.pages c (grown h e)) (sym book)
              (saved_in ru.d x.ram x.holds ps y.disk.pages b h ru.in_ram media.written ru.kept
              (sym long) mv f p lt is e ma);
        },
        refl,
        st,
        refl,
        long,
      )
  queue_keeps (refused er y ws) (nil, inl (why, eq, full)) = rw (nil, why, eq) (runs x b st ru)
  queue_keeps (refused er y ws) (nil, inr (why, off, re)) =
      rw (nil, why) (rests (with_queue x y) b ru.s ru.d h ru.k re ru.kept)
  queue_keeps (struck er g ws) left =
      λ w. let (e, ma, (i, j, re, grows)) = left w in
      went_dark (g w) (ws w) e i j ma re grows

  pub enqueue_keeps : Keeps b (Cleaned x f) (enqueue_frame x f p)
  enqueue_keeps = queue_keeps _ (enqueue_gives ru.s ru.d x.queue h ru.k ru.serving p _ _ _ offers)
