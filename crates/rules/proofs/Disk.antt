-- What the disk has of the history, as the history grows and the front of the queue moves on.
use Rattle.std.proofs.Common.{◌≡◌, ℕ, ◌+◌, ◌<◌, ◌≤◌, true, false, ◌≢◌, ◌⊎◌, length, get_or, set, Some, None, sym, ap, ◌∙◌, inl, inr, arith}
use Rattle.std.proofs.lemmas.Bool.{cases_lt, cases_eq}
use Rattle.std.proofs.lemmas.List.{get_or-set_other}
use Rattle.medium.specs.Meaning.{Bytes}
use Rattle.rules.proofs.Invariant.{Pages, Page, History, trailer, whole, Latest, OfPage, OnDisk, Saved}
use Rattle.rules.proofs.Past.{grown, length_grown, hist_old, trailer_old, trailer_new, whole_old, in_old, in_grown}
use Rattle.rules.proofs.Past.{set_at, set_some, set_none}

-- A page has one last number.
pub latest_one : (h : History) (p q r : ℕ) → Latest h p q → Latest h p r → q ≡ r
latest_one h p q r a b =
    elim (cases_eq q r) [
      | inl is ↦ is
      | inr ne ↦
          absurd (elim (cases_lt q r) [
            | inl lt ↦ a.last r lt b.there.1 b.page
            | inr ge ↦ b.last q (omega arith) a.there.1 a.page
          ])
    ]

-- The last numbers of a history that grew: the new page's own, and those of the other pages.
pub latest_grown : (h : History) (e : Page) (p q : ℕ) → Latest (grown h e) p q
    → ((e.trailer.page ≡ p) × (q ≡ length h + 1)) ⊎ ((e.trailer.page ≢ p) × Latest h p q)
latest_grown h e p q l =
    let n = length_grown h e in
    elim (in_grown h e q l.there) [
      | inl old ↦
          inr (
            λ is. l.last (length h + 1) (omega arith) (omega arith) (rw (trailer_new h e) is),
            record {
              there = old;
              page = rw (trailer_old h e q old) at l.page;
              last = λ r lt le is. l.last r lt (omega arith) (rw (trailer_old h e r (omega arith)) is);
            },
          )
      | inr new ↦ inl (rw (new, trailer_new h e) at l.page, new)
    ]

-- What is on the disk stays there as the history grows; a new page that is clean has to be there.
pub on_disk_grown : (ps : Pages) (h : History) (e : Page) (p v : ℕ) → OnDisk ps h p v → OnDisk ps (grown h e) p v
on_disk_grown ps h e p v (r, inh, at, is, here) =
    let old = trailer_old h e r inh in
    (r, in_old h e r inh, rw old at, rw old is, here ∙ sym (whole_old h e r inh))

pub saved_grown : (ps : Pages) (h : History) (e : Page) (f : ℕ) → f ≤ length h + 1
    → (e.trailer.dirty ≡ false → OnDisk ps h e.trailer.page e.trailer.version)
    → Saved ps h f → Saved ps (grown h e) f
saved_grown ps h e f le clean sv = record { only = only; safe = safe }
  where
    only : (p : ℕ) (bs : Bytes) → get_or ps p None ≡ Some bs → OfPage (grown h e) p bs
    only p bs is =
        let (q, inh, at, same) = sv.only p bs is in
        (q, in_old h e q inh, rw (trailer_old h e q inh) at, rw (hist_old h e q inh) same)

    safe : (p q : ℕ) → Latest (grown h e) p q → (q < f) ⊎ ((trailer (grown h e) q).dirty ≡ false)
        → OnDisk ps (grown h e) p (trailer (grown h e) q).version
    safe p q l c =
        elim (latest_grown h e p q l) [
          | inl (at, new) ↦
              let is : trailer (grown h e) q ≡ e.trailer = rw (new, trailer_new h e) in
              let calm : e.trailer.dirty ≡ false =
              elim c [ inl lt ↦ absurd (omega arith) | inr d ↦ rw is at d ] in
              rw (is, ← at) (on_disk_grown ps h e e.trailer.page e.trailer.version (clean calm))
          | inr (off, m) ↦
              let old = trailer_old h e q m.there in
              rw old (on_disk_grown ps h e p (trailer h q).version (sv.safe p q m (rw old at c)))
        ]

-- A lower front asks less of the disk.
pub saved_less : (ps : Pages) (h : History) (f g : ℕ) → g ≤ f → Saved ps h f → Saved ps h g
saved_less ps h f g le sv =
    record {
      only = sv.only;
      safe = λ p q l c. sv.safe p q l (elim c [ inl lt ↦ inl (omega arith) | inr d ↦ inr d ]);
    }

-- The front moves over a number that is not its page's last, or is clean.
pub saved_skip : (ps : Pages) (h : History) (f : ℕ) → ((p : ℕ) → Latest h p f → (trailer h f).dirty ≡ false)
    → Saved ps h f → Saved ps h (f + 1)
saved_skip ps h f clean sv =
    record {
      only = sv.only;
      safe = λ p q l c. sv.safe p q l (elim c [ inl lt ↦ below p q l lt (cases_eq q f) | inr d ↦ inr d ]);
    }
  where
    below : (p q : ℕ) → Latest h p q → q < f + 1 → (q ≡ f) ⊎ (q ≡ f → ⊥) → (q < f) ⊎ ((trailer h q).dirty ≡ false)
    below p q l lt (inl is) = inr (rw is (clean p (rw is at l)))
    below p q l lt (inr ne) = inl (omega arith)

-- It moves over its page's last number, which is written.
pub saved_write : (ps : Pages) (h : History) (f p : ℕ) → p < length ps → Latest h p f
    → Saved ps h f → Saved (set ps p (whole h f)) h (f + 1)
saved_write ps h f p lt l sv = record { only = only; safe = safe }
  where
    only : (i : ℕ) (bs : Bytes) → get_or (set ps p (whole h f)) i None ≡ Some bs → OfPage h i bs
    only i bs is =
        elim (set_some ps p i (whole h f) bs lt is) [
          | inl (eq, same) ↦ (f, l.there, l.page ∙ sym eq, cc)
          | inr (ne, was) ↦ sv.only i bs was
        ]

    safe : (i q : ℕ) → Latest h i q → (q < f + 1) ⊎ ((trailer h q).dirty ≡ false)
        → OnDisk (set ps p (whole h f)) h i (trailer h q).version
    safe i q m c =
        elim (cases_eq i p) [
          | inl eq ↦
              let one : q ≡ f = latest_one h p q f (rw eq at m) l in
              (f, l.there, l.page ∙ sym eq, ap (λ k. (trailer h k).version) (sym one), set_at ps p i (whole h f) lt eq)
          | inr ne ↦
              let off : q ≢ f = λ w. ne (sym m.page ∙ ap (λ k. (trailer h k).page) w ∙ l.page) in
              let c' : (q < f) ⊎ ((trailer h q).dirty ≡ false) =
              elim c [ inl b ↦ inl (omega arith) | inr d ↦ inr d ] in
              let (r, inh, at, is, was) = sv.safe i q m c' in
              (r, inh, at, is, get_or-set_other ps p i (whole h f) None ne ∙ was)
        ]

-- The write of a page's last number was struck, and the disk's page is unreadable.
pub saved_torn : (ps : Pages) (h : History) (f p q : ℕ) → p < length ps → Latest h p q → f ≤ q
    → (trailer h q).dirty ≡ true → Saved ps h f → Saved (set ps p None) h f
saved_torn ps h f p q lt l far dirty sv =
    record { only = λ i bs is. sv.only i bs (set_none ps p i bs lt is).1; safe = safe }
  where
    safe : (i r : ℕ) → Latest h i r → (r < f) ⊎ ((trailer h r).dirty ≡ false)
        → OnDisk (set ps p None) h i (trailer h r).version
    safe i r m c =
        elim (cases_eq i p) [
          | inl eq ↦
              let one : r ≡ q = latest_one h p r q (rw eq at m) l in
              absurd (elim c [
                | inl b ↦ omega arith
                | inr d ↦
                    let d' : (trailer h q).dirty ≡ false = rw one at d in
                    let z : ◌≡◌ {A = ℕ} 0 1 = cc in
                    omega arith
              ])
          | inr ne ↦
              let (r', inh, at, is, was) = sv.safe i r m c in
              (r', inh, at, is, get_or-set_other ps p i None None ne ∙ was)
        ]
