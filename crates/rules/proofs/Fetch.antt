-- A frame is emptied, and a page is fetched into it: from the flash if a live number has it, else from the disk, else
-- as a page that was never written. What it then has is what was kept of the page.
use Rattle.std.proofs.Common.{◌≡◌, ℕ, ◌*◌, ◌<◌, ◌≤◌, Bool, true, false, cond, ◌&&◌, ltb, ◌≢◌, [], length, take, Some, None, Option, sym, refl, ap, ◌∙◌, subst, inl, inr, ⊎_elim, arith}
use Rattle.std.proofs.lemmas.Bool.{cases_lt, eq-eqb, or_cases, or_parts, and_parts, ltb-true}
use Rattle.std.proofs.lemmas.List.{set-set, length-replicate, get_or-set_same}
use Rattle.medium.specs.Meaning.{Bytes, size, page}
use Rattle.medium.specs.Outcome.{done, refused}
use Rattle.rules.specs.declared.fault.Fault.{Fault}
use Rattle.rules.specs.declared.fault.Refusal.TheVariants as refusal
use Rattle.rules.specs.declared.fault.Side.TheVariants as side
use Rattle.rules.specs.declared.state.State.TheVariants as state
use Rattle.rules.specs.declared.table.Card.{Card}
use Rattle.rules.specs.declared.trailer.Trailer.{Trailer}
use Rattle.rules.specs.Refusals.{touched, is_dark}
use Rattle.rules.specs.Steps.{then_do}
use Rattle.rules.specs.Format.{proper}
use Rattle.rules.specs.Ram.{Ram, card_at, blank, empty, with_card, with_frame, cleaned, fetched}
use Rattle.rules.specs.Queue.{slot, valid, checked}
use Rattle.rules.specs.Store.{Store, Way, with_ram, with_state, darkened, emptied, must_go, is_none, enqueue_frame}
use Rattle.rules.specs.Store.{leave, empty_frame, filled, from_flash, of_page, from_disk, from_valid, fetch}
use Rattle.rules.specs.Book.{Book}
use Rattle.rules.proofs.Invariant.{History, hist, trailer, bytes, In, Latest, Never, first, OnDisk, Written}
use Rattle.rules.proofs.Invariant.{Rests, Filled, InRam, Running, Invariant}
use Rattle.rules.proofs.Entries.{Valid, valid_is}
use Rattle.rules.proofs.Enqueue.{latest_of}
use Rattle.rules.proofs.Reread.{hist_body, hist_proper}
use Rattle.rules.proofs.Dequeue.{read_back, checked_is}
use Rattle.rules.proofs.Ram.{none_some, emptied_in, filled_in}
use Rattle.rules.proofs.Keeps.{Keeps, keeps_then, Cleaned, rests, enqueue_keeps}

-- A store in service with another RAM.
pub re_ram : (y : Store) (m : Ram) (b : Book) (ru : Running y b)
    → InRam m y.holds y.queue.disk.pages b ru.h → Running (with_ram y m) b
re_ram y m b ru ir =
    record { s = ru.s; d = ru.d; h = ru.h; k = ru.k; serving = ru.serving; kept = ru.kept; in_ram = ir }

-- Frame f is empty, and all else in RAM as it was.
abbrev pub Emptied : Store → ℕ → Unit {0} → Store → Book → Type 0
Emptied x f u z c =
    Running z c
    × (z.ram ≡ with_card x.ram f empty)
    × (z.state ≡ state.Up)
    × (size z.queue.disk ≡ size x.queue.disk)

-- Frame f of a store that is up is emptied.
module _ (x : Store) (b : Book) (st : x.state ≡ state.Up) (ru : Running x b) (f : ℕ) (lt : f < x.ram.count) where
  abbrev card : Card
  card = card_at x.ram f

  -- Its page is kept as it is now, and nothing is written.
  plainly : ((p : ℕ) → card.page ≡ Some p → card.fdirty ≡ false) → Emptied x f tt (emptied x f) b
  plainly calm =
      let ir = emptied_in x.ram x.holds x.queue.disk.pages b ru.h ru.in_ram f lt calm in
      (re_ram x (with_card x.ram f empty) b ru ir, refl, st, refl)

  -- Its page p is enqueued first if it must go.
  module _ (p : ℕ) (is : card.page ≡ Some p) where
    abbrev clean : Ram
    clean = with_card x.ram f (cleaned card)

    clean_card : card_at clean f ≡ cleaned card
    clean_card =
        get_or-set_same x.ram.cards f (cleaned card) empty (omega (arith, ru.in_ram.cards, ru.in_ram.few))

    -- Cleaned and then emptied is emptied.
    twice : with_card clean f empty ≡ with_card x.ram f empty
    twice =
        let cards_same = set-set x.ram.cards f (cleaned card) empty in
        λ i. record {
          count = x.ram.count;
          cards = cards_same i;
          bodies = x.ram.bodies;
          recency = x.ram.recency;
        }

    -- A page that must go was written.
    must_be : must_go x.queue p card ≡ true → 1 ≤ card.version
    must_be e =
        ⊎_elim
        (λ (y : card.fdirty ≡ true). omega (arith, ((ru.in_ram.filled f p is).newer y).0))
        (λ (y : (ltb 0 card.version && is_none (valid x.queue p)) ≡ true).
        ltb-true 0 card.version (and_parts _ _ y).0)
        (or_cases _ _ e)

    goes : (t : Bool) → must_go x.queue p card ≡ t
        → Keeps b (Emptied x f)
        (cond t (then_do (enqueue_frame x f p) (λ u y. done tt (emptied y f) [])) (done tt (emptied x f) []))
    goes false e = plainly (λ i at. (or_parts _ _ e).0)
    goes true e =
        keeps_then b (Cleaned x f) (Emptied x f) (enqueue_frame x f p) (λ u y. done tt (emptied y f) [])
        (enqueue_keeps x b st ru f p lt is (must_be e))
        (λ u y c got.
        let (ru', same_ram, up, ho, long) = got in
        let calm : (card_at clean f).fdirty ≡ false = ap (λ (k : Card). k.fdirty) clean_card in
        let ir =
        emptied_in clean y.holds y.queue.disk.pages c ru'.h ru'.in_ram f lt (λ i at. calm) in
        let eq : with_card clean f empty ≡ with_card y.ram f empty =
        twice ∙ ap (λ r. with_card r f empty) (sym same_ram) in
        let ir' = subst (λ r. InRam r y.holds y.queue.disk.pages c ru'.h) eq ir in
        (re_ram (with_ram y clean) (with_card y.ram f empty) c ru' ir', sym eq ∙ twice, up, long))

  leaves : (o : Option ℕ) → card.page ≡ o → Keeps b (Emptied x f) (leave x f card o)
  leaves None is = plainly (λ p at. absurd (none_some p (sym is ∙ at)))
  leaves (Some p) is = goes p is _ refl

  pub empties : Keeps b (Emptied x f) (empty_frame x f)
  empties = leaves card.page refl

-- Frame f has page p, and no hold was given.
abbrev pub Fetched : Store → ℕ → ℕ → Unit {0} → Store → Book → Type 0
Fetched x f p u z c =
    Running z c
    × (z.state ≡ state.Up)
    × (f < z.ram.count)
    × ((card_at z.ram f).page ≡ Some p)
    × (z.holds ≡ x.holds)

-- Page p, which no frame has, is fetched into the empty frame f.
module _ (x : Store) (b : Book) (st : x.state ≡ state.Up) (ru : Running x b) (f p : ℕ) (lt : f < x.ram.count)
    (none : (card_at x.ram f).page ≡ None) (off : (g : ℕ) → (card_at x.ram g).page ≢ Some p)
    (within : p < size x.queue.disk) where
  abbrev h : History
  h = ru.h

  abbrev front : ℕ
  front = first (15 * ru.s) (length h)

  media : Rests ru.s ru.d x.queue h ru.k
  media = ru.serving.running.media

  wr : Written ru.d h
  wr = media.written

  few : ru.d ≤ 240
  few = media.sizes.few

  -- What is to be shown of each way of the fetch.
  abbrev Fetches : Way → Type 0
  Fetches o = Keeps b (Fetched x f p) (darkened o)

  -- The frame gets version v of the page and body bs, which is what was kept.
  fills : (v : ℕ) (d : Bool) (bs : Bytes) → v ≤ 4000000000 → length bs ≡ 240
      → b.kept p ≡ record { body = bs; version = v }
      → (d ≡ false → 0 < v → OnDisk x.queue.disk.pages h p v)
      → Fetched x f p tt (filled x f (fetched p v d) bs) b
  fills v d bs le long kept on =
      let c = fetched p v d in
      let fi : Filled x.queue.disk.pages b h p (fetched p v d) bs =
      record {
        within = within;
        long = long;
        now = ru.in_ram.absent p off ∙ kept;
        clean = λ z. kept;
        newer = λ z. let w : ◌≡◌ {A = ℕ} 0 1 = cc in absurd (omega arith);
        on_disk = on;
      } in
      let ir =
      filled_in x.ram x.holds x.queue.disk.pages b h ru.in_ram f p c bs lt none off refl refl le fi in
      let here = get_or-set_same x.ram.cards f c empty (omega (arith, ru.in_ram.cards, ru.in_ram.few)) in
      (re_ram x (with_frame x.ram f c bs) b ru ir, st, lt, ap (λ (k : Card). k.page) here, refl)

  -- It gets number q of the page, which has the version of the page's last number r.
  fills_from : (q r : ℕ) → In h q → (trailer h q).page ≡ p → Latest h p r → (trailer h q).version ≡ (trailer h r).version
      → (d : Bool) → (d ≡ false → OnDisk x.queue.disk.pages h p (trailer h q).version)
      → Fetched x f p tt (filled x f (fetched p (trailer h q).version d) (take 240 (bytes (hist h q)))) b
  fills_from q r inh at l ve d on =
      let so = wr.sound q inh in
      let body_is = hist_body ru.d few h wr q inh in
      let same_body = sym (body_is ∙ wr.alike q r inh l.there (at ∙ sym l.page) ve) in
      let kept = ru.kept.last p r l ∙ (λ i. record { body = same_body i; version = sym ve i }) in
      fills (trailer h q).version d (take 240 (bytes (hist h q))) so.good.few (ap length body_is ∙ so.long) kept
      (λ z pos. on z)

  -- A medium is dark.
  darkens : (e : Fault) → e.cause ≡ refusal.Dark → Fetches (refused e x [])
  darkens e is =
      subst (λ c. Invariant (cond (is_dark c) (with_state x state.Dark) x) b) (sym is)
      (rests x b ru.s ru.d h ru.k media ru.kept)

  -- A live number q is the page's last: the copy in its frame is read, and it is what its entry says.
  module _ (q : ℕ) (l : Latest h p q) (live : front ≤ q) where
    abbrev entry : Trailer
    entry = trailer h q

    abbrev frame : ℕ
    frame = slot x.queue entry.q

    read_is : (c : Bool) → x.queue.flash.lit ≡ c → checked x.queue entry ≡ read_back x.queue h q c
    read_is = checked_is ru.s ru.d x.queue h ru.k front media q l.there (omega arith)

    flashes : (c : Bool) → x.queue.flash.lit ≡ c → Fetches (from_flash x f p entry (checked x.queue entry))
    flashes true lit =
        subst (λ r. Fetches (from_flash x f p entry r)) (sym (read_is true lit))
        (fills_from q q l.there l.page l refl entry.dirty (λ z. media.saved.safe p q l (inr z)))
    flashes false lit =
        subst (λ r. Fetches (from_flash x f p entry r)) (sym (read_is false lit))
        (darkens (touched refusal.Dark side.Flash frame) refl)

  -- No live number has the page: the disk has it, or nothing has.
  module _ (dead : (q : ℕ) → front ≤ q → In h q → (trailer h q).page ≢ p) where
    -- If the page was ever written, the disk has its last version.
    on_disk : (q : ℕ) → In h q → (trailer h q).page ≡ p
        → (r : ℕ) × Latest h p r × OnDisk x.queue.disk.pages h p (trailer h r).version
    on_disk q inh is =
        let (r, l, le) = latest_of h p q inh is in
        let low : r < front =
        ⊎_elim (λ (y : r < front). y) (λ (z : front ≤ r). absurd (dead r z l.there l.page)) (cases_lt r front) in
        (r, l, media.saved.safe p r l (inl low))

    -- The disk's page is unreadable, and the page was never written; or it is what was kept.
    disks : (o : Option Bytes) → page x.queue.disk p ≡ o → Fetches (from_disk x f p o)
    disks None is =
        fills 0 false blank (omega arith) (length-replicate {A = ℕ} 240 0) (ru.kept.none p never)
        (λ z pos. absurd (omega arith))
      where
        never : Never h p
        never q inh at =
            let (r, l, (i, ini, ati, ve, here)) = on_disk q inh at in
            let z : ◌≡◌ {A = ℕ} 0 1 = cc in
            omega arith
    disks (Some bs) is =
        let (q, inh, at, eq) = media.saved.only p bs is in
        let (r, l, (i, ini, ati, ve, here)) = on_disk q inh at in
        let proper_is : proper (size x.queue.disk) (bytes (hist h i)) 240 ≡ Some (trailer h i) =
        ap (λ n. proper n (bytes (hist h i)) 240) media.sizes.disk ∙ hist_proper ru.d few h wr i ini in
        subst (λ o. Fetches (from_disk x f p o)) (sym here ∙ is)
        (subst (λ o. Fetches (of_page x f p (bytes (hist h i)) o)) (sym proper_is)
        (rw (eq-eqb (trailer h i).page p ati) (fills_from i r ini ati l ve false (λ z. (i, ini, ati, refl, here)))))

    from_the_disk : (t : Bool) → x.queue.disk.lit ≡ t
        → Fetches (cond t (from_disk x f p (page x.queue.disk p)) (refused (touched refusal.Dark side.Disk p) x []))
    from_the_disk true lit = disks (page x.queue.disk p) refl
    from_the_disk false lit = darkens (touched refusal.Dark side.Disk p) refl

  -- The flash or the disk, by the valid entry.
  by_valid : (o : Option Trailer) → Valid h front p o → Fetches (from_valid x f p o)
  by_valid o (inl (is, dead)) = subst (λ t. Fetches (from_valid x f p t)) (sym is) (from_the_disk dead _ refl)
  by_valid o (inr (q, l, live, is)) = subst (λ t. Fetches (from_valid x f p t)) (sym is) (flashes q l live _ refl)

  pub fetches : Keeps b (Fetched x f p) (fetch x f p)
  fetches =
      let some : 1 ≤ 15 * ru.s = omega (arith, media.sizes.least) in
      let di = ru.serving.running.directory in
      by_valid (valid x.queue p)
      (valid_is x.queue.entries (15 * ru.s) front ru.d h some (omega arith) di wr p)
