-- The frames of the flash: one more page, a frame write that was struck, and a write past the frames.
use Rattle.std.proofs.Common.{◌≡◌, ℕ, ◌+◌, ◌<◌, ◌≤◌, ◌≢◌, length, get_or, set, Some, None, Option, sym, ap, ◌∙◌, inl, inr, arith}
use Rattle.std.proofs.lemmas.List.{get_or-set_other}
use Rattle.medium.specs.Meaning.{Bytes}
use Rattle.rules.specs.Queue.{place}
use Rattle.rules.proofs.Invariant.{Pages, Page, History, bytes, whole, In, OfFrame, Framed}
use Rattle.rules.proofs.Past.{grown, length_grown, hist_old, hist_new, whole_old, whole_new, in_old, in_new, in_grown}
use Rattle.rules.proofs.Past.{place_apart, place_wrap, place_lt, set_at, set_some, set_none}

module _ (ps : Pages) (c : ℕ) (h : History) where
  -- The frame of the next number.
  abbrev next : ℕ
  next = place c (length h + 1)

  -- It is written with page e, and the history grows by e.
  pub framed_grown : (e : Page) → 1 ≤ c → c ≤ length ps → Framed ps c h
      → Framed (set ps (place c (length h + 1)) (Some (bytes e))) c (grown h e)
  framed_grown e pos fits fr = record { held = held; only = only }
    where
      n : length (grown h e) ≡ length h + 1
      n = length_grown h e

      here : next < length ps
      here = omega (arith, place_lt c (length h + 1) pos)

      held : (q : ℕ) → In (grown h e) q → length (grown h e) + 2 ≤ q + c
          → get_or (set ps next (Some (bytes e))) (place c q) None ≡ whole (grown h e) q
      held q i low =
          elim (in_grown h e q i) [
            | inl old ↦
                get_or-set_other ps _ _ _ None (place_apart c q (length h + 1) old.0 (omega arith) (omega (arith, n)))
                ∙ fr.held q old (omega (arith, n)) ∙ sym (whole_old h e q old)
            | inr new ↦
                set_at ps next (place c q) _ here (ap (place c) new)
                ∙ sym (whole_new h e) ∙ ap (whole (grown h e)) (sym new)
          ]

      only : (i : ℕ) (bs : Bytes) → i < c → get_or (set ps next (Some (bytes e))) i None ≡ Some bs
          → OfFrame (grown h e) c i bs
      only i bs lt is =
          elim (set_some ps next i (Some (bytes e)) bs here is) [
            | inl (eq, same) ↦
                let new = hist_new h e in
                (length h + 1, in_new h e, omega (arith, n), sym eq, cc)
            | inr (ne, was) ↦
                let (q, inh, low, at, same) = fr.only i bs lt was in
                let off : q + c ≢ length h + 1 = λ w. ne (sym at ∙ sym (place_wrap c q _ inh.0 (sym w))) in
                (q, in_old h e q inh, omega (arith, n), at, same ∙ ap bytes (sym (hist_old h e q inh)))
          ]

  -- Its write was struck, and the frame is unreadable.
  pub framed_torn : 1 ≤ c → c ≤ length ps → Framed ps c h → Framed (set ps (place c (length h + 1)) None) c h
  framed_torn pos fits fr =
      record {
        held = λ q i low.
            get_or-set_other ps _ _ _ None (place_apart c q (length h + 1) i.0 (omega arith) (omega arith))
            ∙ fr.held q i low;
        only = λ i bs lt is.
            let here : next < length ps = omega (arith, place_lt c (length h + 1) pos) in
            fr.only i bs lt (set_none ps next i bs here is).1;
      }

  -- A write past the frames.
  pub framed_past : (j : ℕ) (v : Option Bytes) → 1 ≤ c → c ≤ j → Framed ps c h → Framed (set ps j v) c h
  framed_past j v pos far fr =
      record {
        held = λ q i low.
            get_or-set_other ps j (place c q) v None (λ e. omega (arith, place_lt c q pos, e)) ∙ fr.held q i low;
        only = λ i bs lt is.
            fr.only i bs lt (sym (get_or-set_other ps j i v None (λ e. omega (arith, e))) ∙ is);
      }
