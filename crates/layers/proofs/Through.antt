-- The rules through a window: what is done below at a page's place is done to the page that the window shows.
use Rattle.std.proofs.Common.{◌≡◌, ℕ, ◌+◌, ◌-◌, ◌<◌, min, Bool, true, false, cond, eqb, List, [], length, drop, set, Some, None, Option, Result, sym, refl, ap, ◌∙◌, arith, length-drop, length-take}
use lib.Seq.{take-set-lt}
use Rattle.std.proofs.lemmas.List.{get_or-take, get_or-drop, drop-set-add}
use Rattle.std.proofs.lemmas.Bool.Decides.{nat_tests}
use Rattle.medium.specs.declared.Cause.{Cause}
use Rattle.medium.specs.declared.Cause.TheVariants.{Dark}
use Rattle.medium.specs.Meaning.{Bytes, Page, Meaning, size, page, leaves}
use Rattle.medium.specs.Outcome.{Outcome, Gives, done, struck}
use Rattle.medium.specs.Rules.{refuses, reads, written, struck_at, write_unless, write}
use Rattle.medium.proofs.Access.{passed}
use Rattle.layers.specs.Window.{part, windowed, place}

pub length_part : (first count : ℕ) (ps : List Page) → length (part first count ps) ≡ min count (length ps - first)
unfolding part
length_part first count ps = simp (length-take, length-drop)

module _ (first count i : ℕ) (m : Meaning) where
  -- What the window shows, and where its page i is below.
  abbrev seen : Meaning
  seen = windowed first count m

  abbrev there : ℕ
  there = place first count (size m) i

  same_refusal : (n : ℕ) → refuses m there n ≡ refuses seen i n
  same_refusal n = let e = length_part first count m.pages in grind (arith, nat_tests)

  module _ (n : ℕ) (allowed : refuses m there n ≡ None) where
    inside : (there ≡ first + i) × (i < count)
    inside = let k = (passed m.lit (size m) there n allowed).inside in (grind (arith, nat_tests), grind (arith, nat_tests))

    same_page : page m there ≡ page seen i
    unfolding part
    same_page =
        let lt = inside.1 in
        ap (page m) inside.0
        ∙ sym (get_or-take count (drop first m.pages) i None lt ∙ get_or-drop first m.pages i None)

    same_change : (p : Page) → part first count (set m.pages there p) ≡ set (part first count m.pages) i p
    unfolding part
    same_change p =
        let lt = inside.1 in
        ap (λ q. part first count (set m.pages q p)) inside.0 ∙ rw (drop-set-add, take-set-lt)

  pub reads_through : (n : ℕ) → reads m there n ≡ reads seen i n
  reads_through n = by (refuses m there n) refl where
    by : (o : Option Cause) → refuses m there n ≡ o → reads m there n ≡ reads seen i n
    by None e = rw (sym (same_refusal n)) (rw (e, same_page n e))
    by (Some c) e = rw (sym (same_refusal n)) (rw e)

  module _ (bs : Bytes) (r : Result (Unit {0}) Cause) (t : Meaning) where
    -- A write that is allowed, of page k, where the charge is out or is not.
    abbrev at : Bool → Meaning → ℕ → Outcome Cause Meaning (Unit {0})
    at out s k = cond out (struck Dark (struck_at s k bs) (λ w. [])) (done tt (written s k bs) [])

    allowed_through : refuses m there (length bs) ≡ None → (out : Bool)
        → Gives (at out m there) r t → Gives (at out seen i) r (windowed first count t)
    allowed_through e true h =
        let w = h.1.0 in
        let change = same_change (length bs) e (leaves w (page m there) bs) in
        (h.0, (w, ap (windowed first count) h.1.1 ∙ rw (change, same_page (length bs) e)))
    allowed_through e false h =
        (h.0, ap (windowed first count) h.1 ∙ rw (same_change (length bs) e (Some bs)))

    pub write_through : Gives (write m there bs) r t → Gives (write seen i bs) r (windowed first count t)
    write_through = rw (sym (same_refusal (length bs))) (by (refuses m there (length bs)) refl) where
      by : (o : Option Cause) → refuses m there (length bs) ≡ o
          → Gives (write_unless o m there bs) r t → Gives (write_unless o seen i bs) r (windowed first count t)
      by None e = allowed_through e (eqb m.charge 0)
      by (Some c) e = λ h. (h.0, ap (windowed first count) h.1)
