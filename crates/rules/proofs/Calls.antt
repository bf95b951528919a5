-- Each call of a store that is up keeps the invariant.
use Rattle.std.proofs.Common.{◌≡◌, ℕ, zero, suc, ◌+◌, ◌<◌, Bool, true, false, cond, ◌&&◌, eqb, ltb, leb, ◌≢◌, [], ◌∷◌, length, Some, None, Option, sym, refl, ap, ◌∙◌, subst, inl, inr, arith}
use Rattle.std.proofs.lemmas.Bool.{cases_eq, cases_lt, eqb-true, eqb-false, ltb-true, leb-true, and_parts}
use Rattle.std.proofs.lemmas.List.{get_or-set_same, get_or-set_other}
use Rattle.medium.specs.Meaning.{Bytes, size}
use Rattle.medium.specs.Outcome.{done}
use Rattle.rules.specs.declared.fault.Refusal.TheVariants as refusal
use Rattle.rules.specs.declared.state.State.TheVariants as state
use Rattle.rules.specs.declared.table.Card.{Card}
use Rattle.rules.specs.Steps.{then_do}
use Rattle.rules.specs.Format.{most}
use Rattle.rules.specs.Ram.{Ram, card_at, body_at, empty, with_card, to_head, cleaned, held_card}
use Rattle.rules.specs.Ram.{in_ram, last_free, is_held}
use Rattle.rules.specs.Store.{Store, Answer, Call, take_page, read, write, give_back, checkpoint, gave, wrote, given}
use Rattle.rules.specs.Store.{Out, refuse, with_ram, hold_frame, enqueue_frame, empty_frame, fetch, written_frame}
use Rattle.rules.specs.Store.{bring, take_of, take_up, read_up, write_up, give_up, save, save_all}
use Rattle.rules.specs.Book.{Book, accept, page_of, write_into}
use Rattle.rules.proofs.Invariant.{Kept, InRam, Running, Invariant}
use Rattle.rules.proofs.Ram.{none_some, held_in, given_in}
use Rattle.rules.proofs.Frame.{Calm, written_in, ram_is, Unheld, unheld_is, saved_all_in, saved_all_kept}
use Rattle.rules.proofs.Keeps.{Keeps, keeps_then, Cleaned, runs, enqueue_keeps}
use Rattle.rules.proofs.Fetch.{Emptied, empties, Fetched, fetches}

-- The invariant after an accepted call.
abbrev pub Accepts : Call → Answer → Store → Book → Type 0
Accepts c a y b = Invariant y (accept b c a)

-- What holds of card c at frame f, and of the old cards elsewhere, holds of each card with c set.
each_card : (m : Ram) (f : ℕ) (c : Card) → f < length m.cards → (P : ℕ → Card → Type 0)
    → P f c → ((g : ℕ) → g ≢ f → P g (card_at m g)) → (g : ℕ) → P g (card_at (with_card m f c) g)
each_card m f c lt P here other g =
    elim (cases_eq g f) [
      | inl eq ↦
          subst (λ i. P i (card_at (with_card m f c) i)) (sym eq)
          (subst (λ k. P f k) (sym (get_or-set_same m.cards f c empty lt)) here)
      | inr ne ↦ subst (λ k. P g k) (sym (get_or-set_other m.cards f g c empty ne)) (other g ne)
    ]

-- A store that is up goes on with RAM m, last hold number n and book c, where these agree with its history.
goes_on : (x : Store) (b : Book) → x.state ≡ state.Up → (ru : Running x b) → (m : Ram) (n : ℕ) (c : Book)
    → Kept c ru.h → InRam m n x.queue.disk.pages c ru.h
    → Invariant (record { state = x.state; ram = m; queue = x.queue; holds = n }) c
goes_on x b st ru m n c kp ir =
    runs (record { state = x.state; ram = m; queue = x.queue; holds = n }) c st
    (record { s = ru.s; d = ru.d; h = ru.h; k = ru.k; serving = ru.serving; kept = kp; in_ram = ir })

-- Take. Frame f with page p is held under the next number.
holds_frame : (x : Store) (b : Book) → x.state ≡ state.Up → Running x b
    → (f p : ℕ) (left : Option ℕ) → f < x.ram.count → (card_at x.ram f).page ≡ Some p
    → Keeps b (Accepts (take_page p)) (hold_frame x f left)
holds_frame x b st ru f p left lt is =
    let n = x.holds + 1 in
    let m = to_head (with_card x.ram f (held_card (card_at x.ram f) n)) f in
    goes_on x b st ru m n
    (record { now = b.now; kept = b.kept; taken = record { frame = f; number = n; page = p } ∷ b.taken })
    (record { last = ru.kept.last; none = ru.kept.none })
    (held_in x.ram x.holds x.queue.disk.pages b ru.h ru.in_ram f p lt is)

-- A page that is in no frame comes into frame f, which is emptied for it.
abbrev fetch_held : Store → ℕ → ℕ → Option ℕ → Out
fetch_held y f p left = then_do (fetch y f p) (λ v z. hold_frame z f left)

abbrev bring_into : Store → ℕ → ℕ → Out
bring_into x f p = then_do (empty_frame x f) (λ u y. fetch_held y f p (card_at x.ram f).page)

brings : (x : Store) (b : Book) → x.state ≡ state.Up → Running x b → (p f : ℕ)
    → p < size x.queue.disk → f < x.ram.count → ((g : ℕ) → (card_at x.ram g).page ≢ Some p)
    → Keeps b (Accepts (take_page p)) (bring_into x f p)
brings x b st ru p f within lt off =
    let left = (card_at x.ram f).page in
    keeps_then b (Emptied x f) (Accepts (take_page p)) (empty_frame x f) (λ u y. fetch_held y f p left)
    (empties x b st ru f lt)
    (λ u y c got.
    let (ry, same, up, long) = got in
    let in_cards : f < length x.ram.cards = omega (arith, ru.in_ram.cards, ru.in_ram.few) in
    let here : card_at y.ram f ≡ empty =
    ap (λ r. card_at r f) same ∙ get_or-set_same x.ram.cards f empty empty in_cards in
    let off' : (g : ℕ) → (card_at y.ram g).page ≢ Some p =
    subst (λ r. (g : ℕ) → (card_at r g).page ≢ Some p) (sym same)
    (each_card x.ram f empty in_cards (λ g k. k.page ≢ Some p) (none_some p) (λ g ne. off g)) in
    let lt' : f < y.ram.count = omega (arith, ap (λ (r : Ram). r.count) same) in
    keeps_then c (Fetched y f p) (Accepts (take_page p)) (fetch y f p) (λ v z. hold_frame z f left)
    (fetches y c up ry f p lt' (ap (λ (k : Card). k.page) here) off' (omega (arith, long)))
    (λ v z e gz. holds_frame z e gz.1 gz.0 f p left gz.2 gz.3))

module _ (x : Store) (b : Book) (st : x.state ≡ state.Up) (ru : Running x b) where
  -- A refusal leaves the store as it is.
  stays : Invariant x b
  stays = runs x b st ru

  -- Take, of a page that is in no frame, and of any page.
  bring_keeps : (p : ℕ) → p < size x.queue.disk → ((g : ℕ) → (card_at x.ram g).page ≢ Some p)
      → (o : Option ℕ) → Unheld x.ram x.holds x.queue.disk.pages b ru.h ru.in_ram o
      → Keeps b (Accepts (take_page p)) (bring x p o)
  bring_keeps p within off None u = stays
  bring_keeps p within off (Some f) lt = go (eqb x.holds most)
    where
      go : (t : Bool) → Keeps b (Accepts (take_page p)) (cond t (refuse refusal.Spent x) (bring_into x f p))
      go true = stays
      go false = brings x b st ru p f within lt off

  pub take_keeps : (p : ℕ) → Keeps b (Accepts (take_page p)) (take_up x p)
  take_keeps p = go (ltb p (size x.queue.disk)) refl
    where
      one : (f : ℕ) (s t : Bool) → f < x.ram.count → (card_at x.ram f).page ≡ Some p
          → Keeps b (Accepts (take_page p))
          (cond s (cond t (refuse refusal.Spent x) (hold_frame x f None)) (refuse refusal.Held x))
      one f true true lt is = stays
      one f true false lt is = holds_frame x b st ru f p None lt is
      one f false t lt is = stays

      go : (t : Bool) → ltb p (size x.queue.disk) ≡ t
          → Keeps b (Accepts (take_page p)) (cond t (take_of x p (in_ram x.ram p)) (refuse refusal.NoPage x))
      go false e = stays
      go true e =
          elim (ram_is x.ram x.holds x.queue.disk.pages b ru.h ru.in_ram p) [
            | inl (none, off) ↦
                subst (λ o. Keeps b (Accepts (take_page p)) (take_of x p o)) (sym none)
                (bring_keeps p (ltb-true p (size x.queue.disk) e) off (last_free x.ram x.ram.recency)
                (unheld_is x.ram x.holds x.queue.disk.pages b ru.h ru.in_ram))
            | inr (f, at, lt, is) ↦
                subst (λ o. Keeps b (Accepts (take_page p)) (take_of x p o)) (sym at)
                (one f (eqb (card_at x.ram f).hold 0) (eqb x.holds most) lt is)
          ]

  -- A hold that is good: its frame is in use, and has the page that the book has for the hold.
  pub good_hold : (f n : ℕ) → is_held x.ram f n ≡ true
      → (f < x.ram.count) × ((p : ℕ) × ((card_at x.ram f).page ≡ Some p) × (page_of b.taken f n ≡ Some p))
  good_hold f n e =
      let (l, r) = and_parts (ltb f x.ram.count) (ltb 0 n && eqb (card_at x.ram f).hold n) e in
      let (z, h) = and_parts (ltb 0 n) (eqb (card_at x.ram f).hold n) r in
      let pos = ltb-true 0 n z in
      let is = eqb-true (card_at x.ram f).hold n h in
      (ltb-true f x.ram.count l, go (card_at x.ram f).page refl (omega arith) is)
    where
      go : (o : Option ℕ) → (card_at x.ram f).page ≡ o → 0 < (card_at x.ram f).hold → (card_at x.ram f).hold ≡ n
          → (p : ℕ) × ((card_at x.ram f).page ≡ Some p) × (page_of b.taken f n ≡ Some p)
      go None eq pos is = absurd (ru.in_ram.taken f pos eq)
      go (Some p) eq pos is = (p, eq, ap (page_of b.taken f) (sym is) ∙ ru.in_ram.pages f pos ∙ eq)

  -- Read, write and give back.
  pub read_keeps : (f n l : ℕ) → Keeps b (Accepts (read f n l)) (read_up x f n l)
  read_keeps f n l = go (is_held x.ram f n) (eqb l 240)
    where
      got : Out
      got = done (gave (body_at x.ram f) (card_at x.ram f).version) x []

      go : (s t : Bool)
          → Keeps b (Accepts (read f n l)) (cond s (cond t got (refuse refusal.Length x)) (refuse refusal.Stale x))
      go true true = stays
      go true false = stays
      go false t = stays

  pub write_keeps : (f n o : ℕ) (bs : Bytes) → Keeps b (Accepts (write f n o bs)) (write_up x f n o bs)
  write_keeps f n o bs = go _ _ _ refl refl refl
    where
      z : Store
      z = written_frame x f o bs

      go : (s t u : Bool) → is_held x.ram f n ≡ s → leb (o + length bs) 240 ≡ t
          → eqb (card_at x.ram f).version most ≡ u
          → Keeps b (Accepts (write f n o bs))
          (cond s
          (cond t
          (cond u (refuse refusal.Spent x) (done (wrote ((card_at x.ram f).version + 1)) z []))
          (refuse refusal.Length x))
          (refuse refusal.Stale x))
      go false t u held fits most_is = stays
      go true false u held fits most_is = stays
      go true true true held fits most_is = stays
      go true true false held fits most_is =
          let (lt, (p, is, at)) = good_hold f n held in
          let few = ru.in_ram.versions f in
          let ne = eqb-false (card_at x.ram f).version most most_is in
          subst (λ w. Invariant z (write_into b w o bs)) (sym at)
          (goes_on x b st ru z.ram x.holds (write_into b (Some p) o bs)
          (record { last = ru.kept.last; none = ru.kept.none })
          (written_in x.ram x.holds x.queue.disk.pages b ru.h ru.in_ram f p o bs lt is
          (leb-true (o + length bs) 240 fits) (omega arith)))

  pub give_keeps : (f n : ℕ) → Keeps b (Accepts (give_back f n)) (give_up x f n)
  give_keeps f n = go (is_held x.ram f n) refl
    where
      m : Ram
      m = with_card x.ram f (held_card (card_at x.ram f) 0)

      go : (s : Bool) → is_held x.ram f n ≡ s
          → Keeps b (Accepts (give_back f n)) (cond s (done given (with_ram x m) []) (refuse refusal.Stale x))
      go false e = stays
      go true e =
          goes_on x b st ru m x.holds b ru.kept
          (given_in x.ram x.holds x.queue.disk.pages b ru.h ru.in_ram f (good_hold f n e).0)

-- Checkpoint. The frames below f need no saving.
abbrev pub Below : Ram → ℕ → Type 0
Below m f = (g p : ℕ) → g < f → (card_at m g).page ≡ Some p → (card_at m g).fdirty ≡ false

-- In the store z that x came to, frame f needs none either.
abbrev Marked : Store → ℕ → Unit {0} → Store → Book → Type 0
Marked x f u z c = Running z c × (z.state ≡ state.Up) × (z.ram.count ≡ x.ram.count) × Below z.ram (f + 1)

-- One frame more that needs none.
below_more : (m : Ram) (f : ℕ) → ((p : ℕ) → (card_at m f).page ≡ Some p → (card_at m f).fdirty ≡ false) → Below m f
    → Below m (f + 1)
below_more m f here below g p less at =
    elim (cases_eq g f) [
      | inl eq ↦
          subst (λ i. (card_at m i).page ≡ Some p → (card_at m i).fdirty ≡ false) (sym eq) (here p) at
      | inr ne ↦ below g p (omega arith) at
    ]

-- Frame f is saved.
save_keeps : (x : Store) (b : Book) → x.state ≡ state.Up → (ru : Running x b) → (f : ℕ) → f < x.ram.count
    → Below x.ram f → (card_at x.ram f).fdirty ≡ true → (o : Option ℕ) → (card_at x.ram f).page ≡ o
    → Keeps b (Marked x f) (save x f o)
save_keeps x b st ru f lt below dirt None is =
    (ru, st, refl, below_more x.ram f (λ p at. absurd (none_some p (sym is ∙ at))) below)
save_keeps x b st ru f lt below dirt (Some p) is =
    keeps_then b (Cleaned x f) (Marked x f) (enqueue_frame x f p)
    (λ u y. done tt (with_ram y (with_card y.ram f (cleaned (card_at y.ram f)))) [])
    (enqueue_keeps x b st ru f p lt is (omega (arith, ((ru.in_ram.filled f p is).newer dirt).0)))
    (λ u y c got.
    let (ry, same, up, ho, long) = got in
    let clean : Card = cleaned (card_at x.ram f) in
    let eq : with_card x.ram f clean ≡ with_card y.ram f (cleaned (card_at y.ram f)) =
    ap (λ r. with_card r f (cleaned (card_at r f))) (sym same) in
    let low : Below (with_card x.ram f clean) (f + 1) =
    λ g i less at.
    each_card x.ram f clean (omega (arith, ru.in_ram.cards, ru.in_ram.few))
    (λ g k. g < f + 1 → k.page ≡ Some i → k.fdirty ≡ false) (λ less at. refl)
    (λ g ne less at. below g i (omega arith) at) g less at in (
      subst (λ r. Running (with_ram y r) c) eq ry,
      up,
      ap (λ (r : Ram). r.count) (sym eq),
      subst (λ r. Below r (f + 1)) eq low,
    ))

-- The n frames from f on are saved, where k were saved before.
abbrev Saves : ℕ → ℕ → ℕ → Type 0
Saves n f k =
    (x : Store) (b : Book) → x.state ≡ state.Up → Running x b → f + n ≡ x.ram.count → Below x.ram f
    → Keeps b (Accepts checkpoint) (save_all n x f k)

-- One frame, and then the n after it.
save_turn : (n f k : ℕ) → ((j : ℕ) → Saves n (f + 1) j) → Saves (suc n) f k
save_turn n f k rest x b st ru all below = go (card_at x.ram f).fdirty refl
  where
    go : (t : Bool) → (card_at x.ram f).fdirty ≡ t
        → Keeps b (Accepts checkpoint)
        (cond t (then_do (save x f (card_at x.ram f).page) (λ u y. save_all n y (f + 1) (k + 1)))
        (save_all n x (f + 1) k))
    go true e =
        keeps_then b (Marked x f) (Accepts checkpoint) (save x f (card_at x.ram f).page)
        (λ u y. save_all n y (f + 1) (k + 1))
        (save_keeps x b st ru f (omega arith) below e (card_at x.ram f).page refl)
        (λ u y c got. rest (k + 1) y c got.1 got.0 (omega (arith, got.2)) got.3)
    go false e = rest k x b st ru (omega arith) (below_more x.ram f (λ p at. e) below)

pub all_keeps : (n : ℕ) (x : Store) (b : Book) → x.state ≡ state.Up → (ru : Running x b) → (f k : ℕ)
    → f + n ≡ x.ram.count → Below x.ram f → Keeps b (Accepts checkpoint) (save_all n x f k)
all_keeps zero x b st ru f k all below =
    let calm : Calm x.ram =
    λ g p is.
    elim (cases_lt g f) [
      | inl lt ↦ below g p lt is
      | inr ge ↦
          absurd (none_some p (ap (λ (c : Card). c.page) (sym (ru.in_ram.spare g (omega arith))) ∙ is))
    ] in
    goes_on x b st ru x.ram x.holds (record { now = b.now; kept = b.now; taken = b.taken })
    (saved_all_kept x.ram x.holds x.queue.disk.pages b ru.h ru.in_ram calm ru.kept)
    (saved_all_in x.ram x.holds x.queue.disk.pages b ru.h ru.in_ram calm)
all_keeps (suc n) x b st ru f k all below =
    save_turn n f k (λ j y c sy ry e bl. all_keeps n y c sy ry (f + 1) j e bl) x b st ru all below
