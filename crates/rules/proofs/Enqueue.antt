-- A page joins the queue: room is made for it, and it is appended. What `enqueue` gives.
use Rattle.std.proofs.Common.{◌≡◌, ℕ, zero, suc, ◌+◌, ◌-◌, ◌*◌, ◌<◌, ◌≤◌, Bool, true, false, cond, eqb, ◌≢◌, ◌⊎◌, List, [], ◌∷◌, ◌++◌, length, Some, sym, refl, ap, ◌∙◌, subst, inl, inr, arith}
use Rattle.std.proofs.lemmas.Bool.{cases_eq, cases_lt, eqb-true, eqb-false}
use Rattle.medium.specs.Meaning.{Bytes, Left}
use Rattle.medium.specs.Outcome.{Outcome, Wrote, done, refused, struck}
use Rattle.rules.specs.declared.fault.Fault.{Fault}
use Rattle.rules.specs.declared.fault.Refusal.TheVariants as refusal
use Rattle.rules.specs.Refusals.{plain}
use Rattle.rules.specs.Steps.{wrote, then_do, after}
use Rattle.rules.specs.Format.{most}
use Rattle.rules.specs.Queue.{Queue, valid, number, next, append, make_room, enqueue}
use Rattle.rules.proofs.Invariant.{Pages, Page, History, trailer, bytes, body, In, Latest, OnDisk, Written}
use Rattle.rules.proofs.Invariant.{Rests, Open, Serving, first}
use Rattle.rules.proofs.Past.{grown}
use Rattle.rules.proofs.Entries.{Valid, valid_is}
use Rattle.rules.proofs.Writes.{media_less}
use Rattle.rules.proofs.Dequeue.{Moved, Unlit, Dequeued, room_gives}
use Rattle.rules.proofs.Append.{Adds, Grows, Appended, append_gives}

-- A page with number q has a last one. It is found from r down, where no number above r is of that page.
latest_from : (h : History) (p q n r : ℕ) → In h q → (trailer h q).page ≡ p → r ≡ q + n → r ≤ length h
    → ((i : ℕ) → r < i → i ≤ length h → (trailer h i).page ≢ p) → (i : ℕ) × Latest h p i × (q ≤ i)
latest_from h p q zero r inh is at le above =
    (q, record { there = inh; page = is; last = λ i lt top. above i (omega arith) top }, omega arith)
latest_from h p q (suc n) r inh is at le above =
    elim (cases_eq (trailer h r).page p) [
      | inl eq ↦ (r, record { there = (omega arith, le); page = eq; last = above }, omega arith)
      | inr ne ↦
          latest_from h p q n (q + n) inh is refl (omega arith)
          (λ i lt top.
          elim (cases_eq i r) [
            | inl same ↦ subst (λ j. (trailer h j).page ≢ p) (sym same) ne
            | inr off ↦ above i (omega arith) top
          ])
    ]

pub latest_of : (h : History) (p q : ℕ) → In h q → (trailer h q).page ≡ p → (i : ℕ) × Latest h p i × (q ≤ i)
latest_of h p q inh is =
    latest_from h p q (length h - q) (length h) inh is (omega arith) (omega arith) (λ i lt le. absurd (omega arith))

-- Versions of a page never fall, up to its last.
pub version_le : (d : ℕ) (h : History) → Written d h → (p q r : ℕ) → In h q → (trailer h q).page ≡ p → Latest h p r
    → (trailer h q).version ≤ (trailer h r).version
version_le d h wr p q r inh is l =
    elim (cases_lt q r) [
      | inl lt ↦ wr.rising q r inh l.there lt (is ∙ sym l.page)
      | inr ge ↦
          elim (cases_eq q r) [
            | inl eq ↦ omega (arith, ap (λ i. (trailer h i).version) eq)
            | inr ne ↦ absurd (l.last q (omega arith) inh.1 is)
          ]
    ]

-- What the disk has of a page's highest version stays, in this copy or another.
pub on_disk_moved : (d : ℕ) (ps qs : Pages) (h : History) (p v : ℕ) → Written d h → Moved ps qs h
    → ((q : ℕ) → In h q → (trailer h q).page ≡ p → (trailer h q).version ≤ v)
    → OnDisk ps h p v → OnDisk qs h p v
on_disk_moved d ps qs h p v wr mv top (r, inh, at, is, here) =
    elim (mv p) [
      | inl same ↦ (r, inh, at, is, same ∙ here)
      | inr (q, l, new) ↦
          let same : (trailer h q).version ≡ v =
          omega (arith, version_le d h wr p r q inh at l, top q l.there l.page, is) in
          (q, l.there, l.page, same, new)
    ]

-- Page p of version v with body b may join: nothing of it is newer, and a clean one is on the disk ps.
pub record Offers (d : ℕ) (ps : Pages) (h : History) (p v : ℕ) (dirty : Bool) (b : Bytes) : Type 0 where
  pub within : p < d
  pub long : length b ≡ 240
  pub some : 1 ≤ v
  pub few : v ≤ 4000000000
  pub rising : (q : ℕ) → Latest h p q → (trailer h q).version ≤ v
  pub alike : (q : ℕ) → Latest h p q → (trailer h q).version ≡ v → body h q ≡ b
  pub clean : dirty ≡ false → OnDisk ps h p v

-- The page e of the history is that one.
pub record Made (p v : ℕ) (dirty : Bool) (b : Bytes) (e : Page) : Type 0 where
  pub page : e.trailer.page ≡ p
  pub version : e.trailer.version ≡ v
  pub dirt : e.trailer.dirty ≡ dirty
  pub body : e.body ≡ b

-- What an enqueue on x may come to, where M holds of the page that joins. Done: the page is in the history. Refused:
-- the numbers are spent and nothing changed, or a medium is dark and the media are at rest. Struck: the media are at
-- rest, with the page or without it.
abbrev pub Enqueued : ℕ → ℕ → Queue → History → ℕ → (Page → Type 0) → Outcome Fault Queue (Unit {0}) → Type 0
Enqueued s d x h k M (done a y ws) =
    (e : Page) × M e
    × (ws ≡ wrote (bytes e) (Some (bytes e)) ∷ [])
    × ((j : ℕ) × Serving s d y (grown h e) j)
    × Moved x.disk.pages y.disk.pages h
Enqueued s d x h k M (refused er y ws) =
    (ws ≡ [])
    × (((er ≡ plain refusal.Spent) × (y ≡ x) × (length h ≡ 4000000000))
    ⊎ ((er.cause ≡ refusal.Dark) × Unlit x × Rests s d y h k))
Enqueued s d x h k M (struck er f ws) =
    (w : Left) → (e : Page) × M e × ((g : History) × (j : ℕ) × Rests s d (f w) g j × Grows h e (ws w) g)

-- The append after the room, which made no frame write.
lifted : (s d : ℕ) (x y : Queue) (h : History) (k : ℕ) (M : Page → Type 0) (e : Page) → M e
    → Moved x.disk.pages y.disk.pages h → y.flash ≡ x.flash → Rests s d y h k
    → (ws : List Wrote) → ws ≡ [] → (o : Outcome Fault Queue (Unit {0})) → Appended s d y h e o
    → Enqueued s d x h k M (after ws o)
lifted s d x y h k M e made mv fl re ws nil (done a z vs) (is, sv, same) =
    (e, made, ap (λ us. us ++ vs) nil ∙ is, sv, subst (λ m. Moved x.disk.pages m.pages h) (sym same) mv)
lifted s d x y h k M e made mv fl re ws nil (refused er z vs) (is, eq, why, off) =
    let dark : x.flash.lit ≡ false = ap (λ m. m.lit) (sym fl) ∙ off in
    (ap (λ us. us ++ vs) nil ∙ is, inr (why, inl dark, subst (λ q. Rests s d q h k) (sym eq) re))
lifted s d x y h k M e made mv fl re ws nil (struck er f vs) left =
    λ w. let (g, j, rests, grows) = left w in
    (e, made, (g, j, rests, subst (λ us. Grows h e us g) (sym (ap (λ us. us ++ vs w) nil)) grows))

-- A queue in service, and a page that may join it.
module _ (s d : ℕ) (x : Queue) (h : History) (k : ℕ) (sv : Serving s d x h k)
    (p v : ℕ) (dirty : Bool) (b : Bytes) (of : Offers d x.disk.pages h p v dirty b) where
  abbrev Gives : Outcome Fault Queue (Unit {0}) → Type 0
  Gives o = Enqueued s d x h k (Made p v dirty b) o

  -- The front that leaves room for the next number, and the page with that number.
  abbrev front : ℕ
  front = first (15 * s) (length h + 1)

  abbrev joins : Queue → Page
  joins y = record { trailer = next y p v dirty; body = b }

  abbrev join : Queue → Outcome Fault Queue (Unit {0})
  join y = append y (next y p v dirty) b

  wr : Written d h
  wr = sv.running.media.written

  -- No number of page p is newer, and those of version v have body b.
  rising_all : (q : ℕ) → In h q → (trailer h q).page ≡ p → (trailer h q).version ≤ v
  rising_all q inh is =
      let (r, l, le) = latest_of h p q inh is in
      omega (arith, version_le d h wr p q r inh is l, of.rising r l)

  alike_all : (q : ℕ) → In h q → (trailer h q).page ≡ p → (trailer h q).version ≡ v → body h q ≡ b
  alike_all q inh is eq =
      let (r, l, le) = latest_of h p q inh is in
      let top : (trailer h r).version ≡ v = omega (arith, version_le d h wr p q r inh is l, of.rising r l, eq) in
      wr.alike q r inh l.there (is ∙ sym l.page) (eq ∙ sym top) ∙ of.alike r l top

  back_le : (y : Queue) (f : ℕ) → Valid h f p (valid y p) → number (valid y p) ≤ length h
  back_le y f (inl (none, off)) = omega (arith, ap number none)
  back_le y f (inr (q, l, low, is)) = omega (arith, ap number is, wr.own q l.there, l.there.1)

  adds : (y : Queue) → length h < 4000000000 → Open s d y h k front → Moved x.disk.pages y.disk.pages h
      → Adds d y.disk.pages h (joins y)
  adds y room op mv =
      let pos : 1 ≤ 15 * s = omega (arith, op.media.sizes.least) in
      let va = valid_is y.entries (15 * s) front d h pos (omega arith) op.directory wr p in
      record {
        next = ap (λ n. n + 1) op.last;
        room = room;
        sound = record {
          long = of.long;
          good = record {
            some = of.some;
            few = of.few;
            back = omega (arith, op.last, back_le y front va);
            page = of.within;
          };
        };
        rising = rising_all;
        alike = alike_all;
        clean = λ c. on_disk_moved d x.disk.pages y.disk.pages h p v wr mv rising_all (of.clean c);
      }

  made : (y : Queue) → Made p v dirty b (joins y)
  made y = record { page = refl; version = refl; dirt = refl; body = refl }

  roomed : length h < 4000000000 → (o : Outcome Fault Queue (Unit {0})) → Dequeued s d x h k front o
      → Gives (then_do o (λ a y. join y))
  roomed room (done a y ws) (nil, op, mv, fl) =
      let rests = media_less s d y h k _ _ (omega arith) op.media in
      lifted s d x y h k (Made p v dirty b) (joins y) (made y) mv fl rests ws nil (join y)
      (append_gives s d y h k op sv.settled (joins y) (adds y room op mv))
  roomed room (refused er y ws) (nil, eq, why, off) =
      (nil, inr (why, off, subst (λ q. Rests s d q h k) (sym eq) sv.running.media))
  roomed room (struck er f ws) left =
      λ w. let (nil, rests) = left w in
      (joins x, made x, (h, k, rests, inr (refl, inl nil)))

  whether : (c : Bool) → eqb x.last most ≡ c
      → Gives (cond c (refused (plain refusal.Spent) x []) (then_do (make_room x) (λ a y. join y)))
  whether true e = (refl, inl (refl, refl, omega (arith, eqb-true x.last most e, sv.running.last)))
  whether false e =
      let n = eqb-false x.last most e in
      let la = sv.running.last in
      roomed (omega (arith, wr.short)) (make_room x) (room_gives s d x h k sv.running)

  pub enqueue_gives : Enqueued s d x h k (Made p v dirty b) (enqueue x p v dirty b)
  enqueue_gives = whether _ refl
