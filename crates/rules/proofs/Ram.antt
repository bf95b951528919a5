-- The RAM frames as one of them changes: it is saved to the flash, emptied, filled, held or given back. What must hold
-- of all frames together is brought down to what must hold of the one, and of the others beside it.
use Rattle.std.proofs.Common.{◌≡◌, ℕ, ◌+◌, ◌<◌, ◌≤◌, true, false, cond, eqb, ◌≢◌, ◌⊎◌, List, ◌∷◌, length, set, Some, None, Option, sym, refl, ap, ◌∙◌, subst, subst₂, inl, inr, ⊎_elim, arith}
use Rattle.std.proofs.lemmas.Bool.{cases_Bool, cases_eq, eq-eqb, ne_eqb, and_left, and_from}
use Rattle.std.proofs.lemmas.List.{get_or-set_same, get_or-set_other, length-set, set-get_or}
use Rattle.medium.specs.Meaning.{Bytes}
use Rattle.rules.specs.declared.table.Card.{Card}
use Rattle.rules.specs.Ram.{Ram, card_at, body_at, blank, empty, with_card, with_frame, to_head, without}
use Rattle.rules.specs.Ram.{held_card, cleaned}
use Rattle.rules.specs.Book.{Book, Copy, keep, page_of}
use Rattle.rules.proofs.Invariant.{Page, History, hist, copy, held_copy, Latest, Never, OnDisk, Written, Kept}
use Rattle.rules.proofs.Invariant.{Filled, InRam}
use Rattle.rules.proofs.Past.{grown, hist_old, hist_new, in_old, in_new}
use Rattle.rules.proofs.Disk.{latest_grown, on_disk_grown}
use Rattle.rules.proofs.Dequeue.{Moved}
use Rattle.rules.proofs.Enqueue.{Made, latest_of, version_le, on_disk_moved}

-- Nothing is not something.
pub none_some : {A : Type 0} (a : A) → ◌≢◌ {A = Option A} None (Some a)
none_some a e = let z : ◌≡◌ {A = ℕ} 0 1 = cc in omega arith

-- Whether an option is page p.
pub option_is : (o : Option ℕ) (p : ℕ) → (o ≡ Some p) ⊎ (o ≢ Some p)
option_is None p = inr (none_some p)
option_is (Some q) p =
    ⊎_elim (λ (eq : q ≡ p). inl (ap Some eq)) (λ (ne : q ≡ p → ⊥). inr (λ e. ne (cc))) (cases_eq q p)

-- Equal cards have equal pages, and equal copies equal versions.
same_page : {x y : Card} → x ≡ y → x.page ≡ y.page
same_page e = ap (λ (x : Card). x.page) e

same_version : {x y : Copy} → x ≡ y → x.version ≡ y.version
same_version e = ap (λ (x : Copy). x.version) e

-- No frame has page p if f has not and the others have not.
nowhere : (m : Ram) (f p : ℕ) → (card_at m f).page ≢ Some p → ((g : ℕ) → g ≢ f → (card_at m g).page ≢ Some p)
    → (g : ℕ) → (card_at m g).page ≢ Some p
nowhere m f p off others g is =
    ⊎_elim
    (λ (eq : g ≡ f). off (ap (λ i. (card_at m i).page) (sym eq) ∙ is))
    (λ (ne : g ≡ f → ⊥). others g ne is)
    (cases_eq g f)

-- Frame f of RAM m gets card c and body bs, and all else may change about it.
pub record Change (m : Ram) (n : ℕ) (qs : List (Option Bytes)) (b : Book) (h : History)
    (f : ℕ) (c : Card) (bs : Bytes) : Type 0 where
  pub others : (g p : ℕ) → g ≢ f → (card_at m g).page ≡ Some p → Filled qs b h p (card_at m g) (body_at m g)
  pub here : (p : ℕ) → c.page ≡ Some p → Filled qs b h p c bs
  pub alone : (g p : ℕ) → g ≢ f → c.page ≡ Some p → (card_at m g).page ≢ Some p
  pub absent : (p : ℕ) → c.page ≢ Some p → ((g : ℕ) → g ≢ f → (card_at m g).page ≢ Some p) → b.now p ≡ b.kept p
  pub holds : (g : ℕ) → g ≢ f → (card_at m g).hold ≤ n
  pub hold : c.hold ≤ n
  pub version : c.version ≤ 4000000000
  pub pages : (g : ℕ) → g ≢ f → 0 < (card_at m g).hold
      → page_of b.taken g (card_at m g).hold ≡ (card_at m g).page
  pub page : 0 < c.hold → page_of b.taken f c.hold ≡ c.page
  pub taken : 0 < c.hold → c.page ≢ None

-- The RAM then, with the list of frames fs.
abbrev replaced : Ram → ℕ → Card → Bytes → List ℕ → Ram
replaced m f c bs fs =
    record { count = m.count; cards = set m.cards f c; bodies = set m.bodies f bs; recency = fs }

-- What was so of the old RAM, with any book and history, and the change.
module _ (m : Ram) (n₀ : ℕ) (qs₀ : List (Option Bytes)) (b₀ : Book) (h₀ : History) (ir : InRam m n₀ qs₀ b₀ h₀) where
  module _ (n : ℕ) (qs : List (Option Bytes)) (b : Book) (h : History) (f : ℕ) (lt : f < m.count)
      (c : Card) (bs : Bytes) (fs : List ℕ) (ch : Change m n qs b h f c bs) where
    abbrev m' : Ram
    m' = replaced m f c bs fs

    card_here : card_at m' f ≡ c
    card_here = get_or-set_same m.cards f c empty (omega (arith, ir.cards, ir.few))

    body_here : body_at m' f ≡ bs
    body_here = get_or-set_same m.bodies f bs blank (omega (arith, ir.bodies, ir.few))

    card_other : (g : ℕ) → g ≢ f → card_at m' g ≡ card_at m g
    card_other g ne = get_or-set_other m.cards f g c empty ne

    body_other : (g : ℕ) → g ≢ f → body_at m' g ≡ body_at m g
    body_other g ne = get_or-set_other m.bodies f g bs blank ne

    -- What holds of c and bs at f, and of the old cards and bodies elsewhere, holds of every frame.
    every : (P : ℕ → Card → Bytes → Type 0) → ((g : ℕ) → g ≢ f → P g (card_at m g) (body_at m g)) → P f c bs
        → (g : ℕ) → P g (card_at m' g) (body_at m' g)
    every P off on g =
        ⊎_elim
        (λ (eq : g ≡ f).
        subst (λ i. P i (card_at m' i) (body_at m' i)) (sym eq) (subst₂ (P f) (sym card_here) (sym body_here) on))
        (λ (ne : g ≡ f → ⊥). subst₂ (P g) (sym (card_other g ne)) (sym (body_other g ne)) (off g ne))
        (cases_eq g f)

    -- The RAM after the change is in order.
    pub replaced_in : InRam (replaced m f c bs fs) n qs b h
    replaced_in =
        record {
          cards = length-set m.cards f c ∙ ir.cards;
          bodies = length-set m.bodies f bs ∙ ir.bodies;
          few = ir.few;
          spare = λ g le. card_other g (λ eq. omega arith) ∙ ir.spare g le;
          filled = λ g p.
              every (λ g x y. x.page ≡ Some p → Filled qs b h p x y) (λ g. ch.others g p) (ch.here p) g;
          one = λ g i p.
              every (λ g x y. x.page ≡ Some p → (card_at m' i).page ≡ Some p → g ≡ i) (elsewhere i p) (at_f i p) g;
          absent = λ p off.
              ch.absent p
              (λ is. off f (same_page card_here ∙ is))
              (λ g ne is. off g (same_page (card_other g ne) ∙ is));
          holds = every (λ g x y. x.hold ≤ n) ch.holds ch.hold;
          versions = every (λ g x y. x.version ≤ 4000000000) (λ g ne. ir.versions g) ch.version;
          pages = every (λ g x y. 0 < x.hold → page_of b.taken g x.hold ≡ x.page) ch.pages ch.page;
          taken = every (λ g x y. 0 < x.hold → x.page ≢ None) (λ g ne. ir.taken g) ch.taken;
        }
      where
        -- Frame i is the only one with its page: as against another frame g than f, and as against f.
        elsewhere : (i p g : ℕ) → g ≢ f → (card_at m g).page ≡ Some p → (card_at m' i).page ≡ Some p → g ≡ i
        elsewhere i p g ne is =
            every (λ i x y. x.page ≡ Some p → g ≡ i)
            (λ i nf js. ir.one g i p is js)
            (λ js. absurd (ch.alone g p ne js is)) i

        at_f : (i p : ℕ) → c.page ≡ Some p → (card_at m' i).page ≡ Some p → f ≡ i
        at_f i p is =
            every (λ i x y. x.page ≡ Some p → f ≡ i)
            (λ i nf js. absurd (ch.alone i p nf is js))
            (λ js. refl) i

    -- The same with the body as it is.
    pub carded_in : bs ≡ body_at m f
        → InRam (record { count = m.count; cards = set m.cards f c; bodies = m.bodies; recency = fs }) n qs b h
    carded_in same =
        let bodies_same = ap (set m.bodies f) same ∙ set-get_or m.bodies f blank in
        subst (λ (r : Ram). InRam r n qs b h)
        (λ i. record { count = m.count; cards = set m.cards f c; bodies = bodies_same i; recency = fs })
        replaced_in

-- What is kept once page p is.
pub kept_same : (b : Book) (p : ℕ) → (keep b p).kept p ≡ b.now p
kept_same b p = ap (λ t. cond t (b.now p) (b.kept p)) (eq-eqb p p refl)

pub kept_other : (b : Book) (p i : ℕ) → i ≢ p → (keep b p).kept i ≡ b.kept i
kept_other b p i ne = ap (λ t. cond t (b.now p) (b.kept i)) (ne_eqb i p ne)

-- A frame is still filled if its page's part of the book is the same, and its card in all but page and hold.
pub refilled : (qs : List (Option Bytes)) (b b' : Book) (h : History) (p : ℕ) (c c' : Card) (bs : Bytes)
    → b.now p ≡ b'.now p → b.kept p ≡ b'.kept p
    → c.version ≡ c'.version → c.dirty ≡ c'.dirty → c.fdirty ≡ c'.fdirty
    → Filled qs b h p c bs → Filled qs b' h p c' bs
refilled qs b b' h p c c' bs en ek ev ed ef fi =
    let same : held_copy c bs ≡ held_copy c' bs = ap (λ v. record { body = bs; version = v }) ev in
    record {
      within = fi.within;
      long = fi.long;
      now = sym en ∙ fi.now ∙ same;
      clean = λ z. sym ek ∙ fi.clean (ef ∙ z) ∙ same;
      newer = λ z. let (lt, di) = fi.newer (ef ∙ z) in (omega (arith, same_version ek), sym ed ∙ di);
      on_disk = λ z pos. subst (λ v. OnDisk qs h p v) ev (fi.on_disk (ed ∙ z) (omega arith));
    }

-- The history grew by what frame f holds, and the disk moved.
module _ (d : ℕ) (m : Ram) (n : ℕ) (qs qs' : List (Option Bytes)) (b : Book) (h : History) (ir : InRam m n qs b h)
    (wr : Written d h) (kp : Kept b h) (long : length qs ≡ length qs') (mv : Moved qs qs' h) where
  -- A page that the disk has as it is, the flash has as it is.
  calm : (g p : ℕ) → (card_at m g).page ≡ Some p → (card_at m g).dirty ≡ false → (card_at m g).fdirty ≡ false
  calm g p is cl =
      ⊎_elim
      (λ (y : (card_at m g).fdirty ≡ true).
      let (lt, di) = (ir.filled g p is).newer y in
      let z : ◌≡◌ {A = ℕ} 0 1 = cc in
      absurd (omega arith))
      (λ (e : (card_at m g).fdirty ≡ false). e)
      (cases_Bool (card_at m g).fdirty)

  -- What the disk has of a clean page, it has after the move: the page's last number has the version of the card.
  disk_stays : (g p : ℕ) → (card_at m g).page ≡ Some p → (card_at m g).dirty ≡ false → 0 < (card_at m g).version
      → OnDisk qs' h p (card_at m g).version
  disk_stays g p is cl pos =
      let fi = ir.filled g p is in
      let same = same_version (fi.clean (calm g p is cl)) in
      on_disk_moved d qs qs' h p (card_at m g).version wr mv
      (λ q inh at.
      let (r, l, le) = latest_of h p q inh at in
      omega (arith, version_le d h wr p q r inh at l, same_version (kp.last p r l), same))
      (fi.on_disk cl pos)

  -- Frame f has page p, and e was made of it.
  module _ (f p : ℕ) (lt : f < m.count) (is : (card_at m f).page ≡ Some p)
      (e : Page) (ma : Made p (card_at m f).version (card_at m f).dirty (body_at m f) e) where
    -- The new page is what page p is now, so that this is kept of it.
    now_is : b.now p ≡ copy e
    now_is = (ir.filled f p is).now ∙ (λ i. record { body = sym ma.body i; version = sym ma.version i })

    page_new : (hist (grown h e) (length h + 1)).trailer.page ≡ p
    page_new = ap (λ (x : Page). x.trailer.page) (hist_new h e) ∙ ma.page

    pub kept_grown : Kept (keep b p) (grown h e)
    kept_grown = record { last = last; none = none }
      where
        last : (i q : ℕ) → Latest (grown h e) i q → (keep b p).kept i ≡ copy (hist (grown h e) q)
        last i q l =
            ⊎_elim
            (λ (new : (e.trailer.page ≡ i) × (q ≡ length h + 1)).
            let eq : i ≡ p = sym new.0 ∙ ma.page in
            let here : copy e ≡ copy (hist (grown h e) q) =
            ap copy (sym (hist_new h e)) ∙ ap (λ j. copy (hist (grown h e) j)) (sym new.1) in
            ap (keep b p).kept eq ∙ kept_same b p ∙ now_is ∙ here)
            (λ (old : (e.trailer.page ≢ i) × Latest h i q).
            let (off, l') = old in
            kept_other b p i (λ eq. off (ma.page ∙ sym eq))
            ∙ kp.last i q l'
            ∙ ap copy (sym (hist_old h e q l'.there)))
            (latest_grown h e i q l)

        none : (i : ℕ) → Never (grown h e) i → (keep b p).kept i ≡ record { body = blank; version = 0 }
        none i off =
            kept_other b p i (λ eq. off (length h + 1) (in_new h e) (page_new ∙ sym eq))
            ∙ kp.none i
            (λ q inh at. off q (in_old h e q inh) (ap (λ (x : Page). x.trailer.page) (hist_old h e q inh) ∙ at))

    -- Frame f is clean.
    pub saved_in : InRam (with_card m f (cleaned (card_at m f))) n qs' (keep b p) (grown h e)
    saved_in =
        carded_in m n qs b h ir n qs' (keep b p) (grown h e) f lt (cleaned (card_at m f)) (body_at m f) m.recency
        (record {
          others = λ g i ne at.
              let fi = ir.filled g i at in
              let off : i ≢ p = λ eq. ne (ir.one g f p (at ∙ ap Some eq) is) in
              let ke = kept_other b p i off in
              record {
                within = omega (arith, fi.within);
                long = fi.long;
                now = fi.now;
                clean = λ z. ke ∙ fi.clean z;
                newer = λ z. let (l, di) = fi.newer z in (omega (arith, same_version ke), di);
                on_disk = λ z pos. on_disk_grown qs' h e i (card_at m g).version (disk_stays g i at z pos);
              };
          here = λ i at.
              let fi = ir.filled f i at in
              let eq : i ≡ p = cc in
              record {
                within = omega (arith, fi.within);
                long = fi.long;
                now = fi.now;
                clean = λ z. ap (keep b p).kept eq ∙ kept_same b p ∙ ap b.now (sym eq) ∙ fi.now;
                newer = λ z. let w : ◌≡◌ {A = ℕ} 0 1 = cc in absurd (omega arith);
                on_disk = λ z pos. on_disk_grown qs' h e i (card_at m f).version (disk_stays f i at z pos);
              };
          alone = λ g i ne at js. ne (ir.one g f i js at);
          absent = λ i off others.
              ir.absent i (nowhere m f i off others) ∙ sym (kept_other b p i (λ eq. off (is ∙ ap Some (sym eq))));
          holds = λ g ne. ir.holds g;
          hold = ir.holds f;
          version = ir.versions f;
          pages = λ g ne. ir.pages g;
          page = ir.pages f;
          taken = ir.taken f;
        }) refl

-- The other changes of a frame.
module _ (m : Ram) (n : ℕ) (qs : List (Option Bytes)) (b : Book) (h : History) (ir : InRam m n qs b h) where
  -- Frame f is emptied, where its page is kept as it is now.
  pub emptied_in : (f : ℕ) → f < m.count
      → ((p : ℕ) → (card_at m f).page ≡ Some p → (card_at m f).fdirty ≡ false)
      → InRam (with_card m f empty) n qs b h
  emptied_in f lt calm =
      carded_in m n qs b h ir n qs b h f lt empty (body_at m f) m.recency
      (record {
        others = λ g p ne at. ir.filled g p at;
        here = λ p at. absurd (none_some p at);
        alone = λ g p ne at. absurd (none_some p at);
        absent = λ p off others.
            ⊎_elim
            (λ (at : (card_at m f).page ≡ Some p). let fi = ir.filled f p at in fi.now ∙ sym (fi.clean (calm p at)))
            (λ (not_here : (card_at m f).page ≢ Some p). ir.absent p (nowhere m f p not_here others))
            (option_is (card_at m f).page p);
        holds = λ g ne. ir.holds g;
        hold = omega arith;
        version = omega arith;
        pages = λ g ne. ir.pages g;
        page = λ pos. absurd (omega arith);
        taken = λ pos. absurd (omega arith);
      }) refl

  -- An empty frame gets page p, which no frame holds.
  pub filled_in : (f p : ℕ) (c : Card) (bs : Bytes) → f < m.count
      → (card_at m f).page ≡ None → ((g : ℕ) → (card_at m g).page ≢ Some p)
      → c.page ≡ Some p → c.hold ≡ 0 → c.version ≤ 4000000000 → Filled qs b h p c bs
      → InRam (with_frame m f c bs) n qs b h
  filled_in f p c bs lt none off at free few fi =
      replaced_in m n qs b h ir n qs b h f lt c bs m.recency
      (record {
        others = λ g i ne js. ir.filled g i js;
        here = λ i js. let eq : p ≡ i = cc in subst (λ j. Filled qs b h j c bs) eq fi;
        alone = λ g i ne js ks. let eq : p ≡ i = cc in off g (ks ∙ ap Some (sym eq));
        absent = λ i not_here others. ir.absent i (nowhere m f i (λ js. none_some i (sym none ∙ js)) others);
        holds = λ g ne. ir.holds g;
        hold = omega arith;
        version = few;
        pages = λ g ne. ir.pages g;
        page = λ pos. absurd (omega arith);
        taken = λ pos. absurd (omega arith);
      })

  -- Frame f, with page p, is held under the next number and moves to the head of the list.
  abbrev held_book : ℕ → ℕ → Book
  held_book f p =
      record { now = b.now; kept = b.kept; taken = record { frame = f; number = n + 1; page = p } ∷ b.taken }

  pub held_in : (f p : ℕ) → f < m.count → (card_at m f).page ≡ Some p
      → InRam (to_head (with_card m f (held_card (card_at m f) (n + 1))) f) (n + 1) qs (held_book f p) h
  held_in f p lt is =
      let b' = held_book f p in
      let c = held_card (card_at m f) (n + 1) in
      carded_in m n qs b h ir (n + 1) qs b' h f lt c (body_at m f) (f ∷ without f m.recency)
      (record {
        others = λ g i ne js.
            refilled qs b b' h i (card_at m g) (card_at m g) (body_at m g) refl refl refl refl refl (ir.filled g i js);
        here = λ i js.
            refilled qs b b' h i (card_at m f) c (body_at m f) refl refl refl refl refl (ir.filled f i js);
        alone = λ g i ne js ks. ne (ir.one g f i ks js);
        absent = λ i off others. ir.absent i (nowhere m f i off others);
        holds = λ g ne. omega (arith, ir.holds g);
        hold = omega arith;
        version = ir.versions f;
        pages = λ g ne pos.
            ap (λ t. cond t (Some p) (page_of b.taken g (card_at m g).hold))
            (and_left (eqb f g) (eqb (n + 1) (card_at m g).hold) (ne_eqb f g (λ eq. ne (sym eq))))
            ∙ ir.pages g pos;
        page = λ pos.
            ap (λ t. cond t (Some p) (page_of b.taken f (n + 1)))
            (and_from (eqb f f) (eqb (n + 1) (n + 1)) (eq-eqb f f refl) (eq-eqb (n + 1) (n + 1) refl))
            ∙ sym is;
        taken = λ pos none. none_some p (sym none ∙ is);
      }) refl

  -- Frame f is held no more.
  pub given_in : (f : ℕ) → f < m.count → InRam (with_card m f (held_card (card_at m f) 0)) n qs b h
  given_in f lt =
      let c = held_card (card_at m f) 0 in
      carded_in m n qs b h ir n qs b h f lt c (body_at m f) m.recency
      (record {
        others = λ g i ne js. ir.filled g i js;
        here = λ i js.
            refilled qs b b h i (card_at m f) c (body_at m f) refl refl refl refl refl (ir.filled f i js);
        alone = λ g i ne js ks. ne (ir.one g f i ks js);
        absent = λ i off others. ir.absent i (nowhere m f i off others);
        holds = λ g ne. ir.holds g;
        hold = omega arith;
        version = ir.versions f;
        pages = λ g ne. ir.pages g;
        page = λ pos. absurd (omega arith);
        taken = λ pos. absurd (omega arith);
      }) refl
