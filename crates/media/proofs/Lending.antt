-- A medium over lent bytes does what the rules of a medium say, if its coding shows what it writes.
use Rattle.std.proofs.Common.{◌≡◌, ℕ, ◌-◌, ◌<◌, Bool, true, false, cond, eqb, [], length, Some, None, Option, Result, sym, refl, ap, ◌∙◌, subst}
use Rattle.std.proofs.lemmas.Bool.{eqb-true}
use Rattle.medium.specs.declared.Cause.{Cause}
use Rattle.medium.specs.declared.Cause.TheVariants.{Dark}
use Rattle.medium.specs.Meaning.{Bytes, Meaning, page, leaves, with_page}
use Rattle.medium.specs.Outcome.{Gives, done, refused, struck}
use Rattle.medium.specs.Rules.{refusal, refuses, reads, unless_refused, write, write_unless, written, struck_at}
use Rattle.medium.proofs.Access.{passed}
use Rattle.media.specs.Lent.{Parts, Coding, Shows, means, refuses_lent, reads_lent, stored, cut_off, store_unless, store}
use Rattle.media.specs.Laws.Pages.{length_pages, getD_pages}

module _ (c : Coding) where
  refuses_is : (e : Parts) (i n : ℕ) → refuses (means c e) i n ≡ refuses_lent c e i n
  refuses_is e i n = ap (λ k. refusal e.lit k i n) (length_pages c e.bytes)

  reads_unless : (e : Parts) (i n : ℕ) (o : Option Cause) → refuses_lent c e i n ≡ o
      → unless_refused o (page (means c e) i) ≡ unless_refused o (c.decode e.bytes i)
  reads_unless e i n (Some x) h = refl
  reads_unless e i n None h =
      ap (unless_refused None) (getD_pages c e.bytes i None (passed e.lit (c.count e.bytes) i n h).inside)

  pub reads_is : (e : Parts) (i n : ℕ) → reads_lent c e i n ≡ reads (means c e) i n
  reads_is e i n =
      sym (ap (λ o. unless_refused o (page (means c e) i)) (refuses_is e i n) ∙ reads_unless e i n _ refl)

  module _ (shows : Shows c) (e : Parts) (i : ℕ) (bs : Bytes) (r : Result (Unit {0}) Cause) (f : Parts) where
    abbrev m : Meaning
    m = means c e

    -- where the checks have passed
    charged : i < c.count e.bytes → length bs ≡ 256 → e.lit ≡ true → (t : Bool) → eqb e.charge 0 ≡ t
        → Gives (cond t (refused Dark (cut_off c e i bs) []) (done tt (stored c e i bs) [])) r f
        → Gives (cond t (struck Dark (struck_at m i bs) (λ w. [])) (done tt (written m i bs) [])) r (means c f)
    charged lt len on true z g =
        let s = shows.cut_shows e.strike e.bytes bs i lt len in
        let at : c.decode e.bytes i ≡ page m i = sym (getD_pages c e.bytes i None lt) in (
          g.0,
          (
            s.0,
            ap (means c) g.1
                ∙ ap (λ q. record { pages = q; charge = e.charge; lit = false }) s.1
                ∙ ap (λ p. with_page m i (leaves s.0 p bs) e.charge false) at
                ∙ ap (λ n. with_page m i (leaves s.0 (page m i) bs) n false) (eqb-true e.charge 0 z),
          ),
        )
    charged lt len on false z g = (
      g.0,
      ap (means c) g.1
          ∙ ap (λ q. record { pages = q; charge = e.charge - 1; lit = e.lit })
          (shows.put_shows e.bytes bs i lt len)
          ∙ ap (λ b. with_page m i (Some bs) (e.charge - 1) b) on,
    )

    allowed_store : (o : Option Cause) → refuses_lent c e i (length bs) ≡ o → Gives (store_unless c o e i bs) r f
        → Gives (write_unless o (means c e) i bs) r (means c f)
    allowed_store (Some x) h g = (g.0, ap (means c) g.1)
    allowed_store None h g =
        let p = passed e.lit (c.count e.bytes) i (length bs) h in
        charged p.inside p.whole p.on _ refl g

    -- a store to the byte is a write of the medium
    pub store_gives : Gives (store c e i bs) r f → Gives (write (means c e) i bs) r (means c f)
    store_gives g =
        subst (λ (o : Option Cause). Gives (write_unless o (means c e) i bs) r (means c f))
        (sym (refuses_is e i (length bs))) (allowed_store _ refl g)
