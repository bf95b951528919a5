-- More changes of the RAM: a write to a frame, a checkpoint, and a fresh RAM; and the frames that a call finds.
use Rattle.std.proofs.Common.{◌≡◌, ℕ, ◌+◌, ◌<◌, ◌≤◌, Bool, true, false, cond, ◌≢◌, ◌⊎◌, List, [], ◌∷◌, length, get_or, replicate, Some, None, Option, sym, refl, ap, ◌∙◌, inl, inr, arith}
use Rattle.std.proofs.lemmas.Bool.{cases_Bool, cases_eq, cases_lt, eq-eqb, ne_eqb}
use Rattle.std.proofs.lemmas.List.{length-append, length-take, length-drop, length-replicate, get_or-replicate, get_or_past}
use Rattle.std.proofs.lemmas.Bool.Decides.{nat_tests}
use Rattle.medium.specs.Meaning.{Bytes}
use Rattle.rules.specs.declared.table.Card.{Card}
use Rattle.rules.specs.Ranks.{highest, found_at}
use Rattle.rules.specs.Ram.{Ram, card_at, body_at, blank, empty, with_frame, put, fresh, no_cards, no_bodies, changed}
use Rattle.rules.specs.Ram.{in_ram, is_free, last_free, or_else}
use Rattle.rules.specs.Book as book
use Rattle.rules.specs.Book.{Book, Copy, write_into}
use Rattle.rules.proofs.Invariant.{Pages, History, Kept, held_copy, InRam}
use Rattle.rules.proofs.Best.{Best, highest_best}
use Rattle.rules.proofs.Ram.{replaced_in, none_some, refilled}

length_put : (bs : Bytes) (o : ℕ) (new : Bytes) → length bs ≡ 240 → o + length new ≤ 240
    → length (put bs o new) ≡ 240
length_put bs o new long fits = simp (length-append, length-take, length-drop) (omega arith)

-- The frame o of page p, if any has it.
abbrev pub FrameOf : Ram → ℕ → Option ℕ → Type 0
FrameOf m p o =
    ((o ≡ None) × ((f : ℕ) → (card_at m f).page ≢ Some p))
    ⊎ ((f : ℕ) × (o ≡ Some f) × (f < m.count) × ((card_at m f).page ≡ Some p))

-- No page in RAM is newer than its flash copy.
abbrev pub Calm : Ram → Type 0
Calm m = (f p : ℕ) → (card_at m f).page ≡ Some p → (card_at m f).fdirty ≡ false

module _ (m : Ram) (n : ℕ) (qs : Pages) (b : Book) (h : History) (ir : InRam m n qs b h) where
  -- The book at a write to page p.
  now_other : (p o : ℕ) (bs : Bytes) (i : ℕ) → i ≢ p → (write_into b (Some p) o bs).now i ≡ b.now i
  now_other p o bs i ne = ap (λ t. cond t (book.changed (b.now p) o bs) (b.now i)) (ne_eqb i p ne)

  now_same : (p o : ℕ) (bs : Bytes) → (write_into b (Some p) o bs).now p ≡ book.changed (b.now p) o bs
  now_same p o bs = ap (λ t. cond t (book.changed (b.now p) o bs) (b.now p)) (eq-eqb p p refl)

  -- The kept version of a page in RAM is not above that of its card.
  pub kept_less : (f p : ℕ) → (card_at m f).page ≡ Some p → (b.kept p).version < (card_at m f).version + 1
  kept_less f p is =
      let fi = ir.filled f p is in
      elim (cases_Bool (card_at m f).fdirty) [
        | inl new ↦ omega (arith, (fi.newer new).0)
        | inr old ↦ omega (arith, ap (λ (k : Copy). k.version) (fi.clean old))
      ]

  -- A write of bs at offset o to frame f, which has page p.
  pub written_in : (f p o : ℕ) (bs : Bytes) → f < m.count → (card_at m f).page ≡ Some p → o + length bs ≤ 240
      → (card_at m f).version < 4000000000
      → InRam (with_frame m f (changed (card_at m f)) (put (body_at m f) o bs)) n qs (write_into b (Some p) o bs) h
  written_in f p o bs lt is fits few =
      let c = write_into b (Some p) o bs in
      replaced_in m n qs b h ir n qs c h f lt (changed (card_at m f)) (put (body_at m f) o bs) m.recency
      (record {
        others = λ g i ne js.
            let off : i ≢ p = λ eq. ne (ir.one g f p (js ∙ ap Some eq) is) in
            refilled qs b c h i (card_at m g) (card_at m g) (body_at m g) (sym (now_other p o bs i off))
            refl refl refl refl (ir.filled g i js);
        here = λ i js.
            let eq : i ≡ p = cc in
            let fi = ir.filled f i js in
            let was : b.now p ≡ held_copy (card_at m f) (body_at m f) = ap b.now (sym eq) ∙ fi.now in
            record {
              within = fi.within;
              long = length_put (body_at m f) o bs fi.long fits;
              now = ap c.now eq ∙ now_same p o bs ∙ ap (λ k. book.changed k o bs) was;
              clean = λ z. let w : ◌≡◌ {A = ℕ} 0 1 = cc in absurd (omega arith);
              newer = λ z. (kept_less f i js, refl);
              on_disk = λ z. let w : ◌≡◌ {A = ℕ} 0 1 = cc in absurd (omega arith);
            };
        alone = λ g i ne js ks. ne (ir.one g f i ks js);
        absent = λ i off others.
            now_other p o bs i (λ eq. off (is ∙ ap Some (sym eq)))
            ∙ ir.absent i
            (λ g js.
            elim (cases_eq g f) [
              | inl eq ↦ off (ap (λ j. (card_at m j).page) (sym eq) ∙ js)
              | inr ne ↦ others g ne js
            ]);
        holds = λ g ne. ir.holds g;
        hold = ir.holds f;
        version = omega arith;
        pages = λ g ne. ir.pages g;
        page = ir.pages f;
        taken = ir.taken f;
      })

  -- A frame with a page is in use.
  in_use : (f p : ℕ) → (card_at m f).page ≡ Some p → f < m.count
  in_use f p is =
      elim (cases_lt f m.count) [
        | inl lt ↦ lt
        | inr le ↦ absurd (none_some p (ap (λ (c : Card). c.page) (sym (ir.spare f le)) ∙ is))
      ]

  -- The search for page p finds its frame.
  pub ram_is : (p : ℕ) → FrameOf m p (in_ram m p)
  ram_is p = go (highest page version p m.cards) (highest_best page version p empty m.cards)
    where
      page : Card → Option ℕ
      page c = c.page

      version : Card → ℕ
      version c = c.version

      go : (r : Option (ℕ × Card)) → Best page version p empty 0 m.cards r → FrameOf m p (found_at r)
      go None off =
          inl (
            refl,
            λ f is.
                elim (cases_lt f (length m.cards)) [
                  | inl lt ↦ off f lt is
                  | inr le ↦ none_some p (ap page (sym (get_or_past m.cards f empty le)) ∙ is)
                ],
          )
      go (Some (i, c)) (j, at, top) =
          let eq : i ≡ j = omega arith in
          let is : (card_at m j).page ≡ Some p = ap page (sym top.here) ∙ top.named in
          inr (j, ap Some eq, in_use j p is, is)

  -- A frame that nobody holds is in use, if there is one.
  abbrev pub Unheld : Option ℕ → Type 0
  Unheld None = Unit {0}
  Unheld (Some f) = f < m.count

  unheld_from : (fs : List ℕ) → Unheld (last_free m fs)
  unheld_from [] = tt
  unheld_from (f ∷ fs) = go (last_free m fs) (is_free m f) refl (unheld_from fs)
    where
      go : (o : Option ℕ) (t : Bool) → is_free m f ≡ t → Unheld o → Unheld (or_else o (cond t (Some f) None))
      go (Some g) t e u = u
      go None true e u = grind (arith, nat_tests)
      go None false e u = tt

  pub unheld_is : Unheld (last_free m m.recency)
  unheld_is = unheld_from m.recency

  -- A checkpoint that is done: every page is kept as it is now.
  abbrev pub all_kept : Book
  all_kept = record { now = b.now; kept = b.now; taken = b.taken }

  now_kept : Calm m → (p : ℕ) → b.now p ≡ b.kept p
  now_kept calm p =
      elim (ram_is p) [
        | inl (none, off) ↦ ir.absent p off
        | inr (f, at, lt, is) ↦ let fi = ir.filled f p is in fi.now ∙ sym (fi.clean (calm f p is))
      ]

  pub saved_all_in : Calm m → InRam m n qs (record { now = b.now; kept = b.now; taken = b.taken }) h
  saved_all_in calm =
      record {
        cards = ir.cards;
        bodies = ir.bodies;
        few = ir.few;
        spare = ir.spare;
        filled = λ f p is.
            refilled qs b all_kept h p (card_at m f) (card_at m f) (body_at m f) refl (sym (now_kept calm p))
            refl refl refl (ir.filled f p is);
        one = ir.one;
        absent = λ p off. refl;
        holds = ir.holds;
        versions = ir.versions;
        pages = ir.pages;
        taken = ir.taken;
      }

  pub saved_all_kept : Calm m → Kept b h → Kept (record { now = b.now; kept = b.now; taken = b.taken }) h
  saved_all_kept calm kp =
      record {
        last = λ p q l. now_kept calm p ∙ kp.last p q l;
        none = λ p off. now_kept calm p ∙ kp.none p off;
      }

-- A fresh RAM has empty cards.
length_no_cards : length no_cards ≡ 16
unfolding no_cards
length_no_cards = length-replicate 16 empty

length_no_bodies : length no_bodies ≡ 16
unfolding no_bodies
length_no_bodies = length-replicate 16 blank

no_card_at : (f : ℕ) → get_or no_cards f empty ≡ empty
unfolding no_cards
no_card_at f =
    elim (cases_lt f 16) [
      | inl lt ↦ get_or-replicate 16 f empty empty lt
      | inr le ↦ get_or_past (replicate 16 empty) f empty (omega (arith, length-replicate 16 empty))
    ]

-- It agrees with a book where each page is now as it was kept.
pub fresh_in : (c n : ℕ) → c ≤ 16 → (qs : Pages) (b : Book) (h : History)
    → InRam (fresh c) n qs (record { now = b.kept; kept = b.kept; taken = b.taken }) h
fresh_in c n few qs b h =
    record {
      cards = length_no_cards;
      bodies = length_no_bodies;
      few = few;
      spare = λ f le. no_card_at f;
      filled = λ f p is. absurd (none_some p (sym (page f) ∙ is));
      one = λ f g p is. absurd (none_some p (sym (page f) ∙ is));
      absent = λ p off. refl;
      holds = λ f. omega (arith, hold f);
      versions = λ f. omega (arith, ap (λ (k : Card). k.version) (no_card_at f));
      pages = λ f pos. absurd (omega (arith, pos, hold f));
      taken = λ f pos. absurd (omega (arith, pos, hold f));
    }
  where
    page : (f : ℕ) → (card_at (fresh c) f).page ≡ None
    page f = ap (λ (k : Card). k.page) (no_card_at f)

    hold : (f : ℕ) → (card_at (fresh c) f).hold ≡ 0
    hold f = ap (λ (k : Card). k.hold) (no_card_at f)
