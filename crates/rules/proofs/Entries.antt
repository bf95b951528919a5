-- The directory: the front passes an entry, a new number is entered, and the valid entry of a page.
use Rattle.std.proofs.Common.{◌≡◌, ℕ, ◌+◌, ◌<◌, ◌≤◌, ◌≢◌, ◌⊎◌, List, length, get_or, set, Some, None, Option, sym, refl, ap, ◌∙◌, inl, inr, arith}
use Rattle.std.proofs.lemmas.List.{get_or-set_other, length-set}
use Rattle.rules.specs.declared.trailer.Trailer.{Trailer}
use Rattle.rules.specs.Ranks.{highest}
use Rattle.rules.specs.Queue.{place, page_of, number, found_entry}
use Rattle.rules.proofs.Invariant.{Page, History, trailer, In, Latest, OfEntry, Directory, Written}
use Rattle.rules.proofs.Past.{grown, trailer_old, trailer_new, in_old, in_new, in_grown}
use Rattle.rules.proofs.Past.{place_apart, place_lt, set_at, set_some, set_none}
use Rattle.rules.proofs.Disk.{latest_one}
use Rattle.rules.proofs.Best.{Best, highest_best}

module _ (es : List (Option Trailer)) (c f : ℕ) (h : History) where
  -- The front f leaves.
  pub directory_passed : 1 ≤ c → 1 ≤ f → length h < f + c → Directory es c f h
      → Directory (set es (place c f) None) c (f + 1) h
  directory_passed pos one near di =
      record { size = omega (arith, length-set es (place c f) None, di.size); there = there; only = only }
    where
      there : (q : ℕ) → f + 1 ≤ q → In h q → get_or (set es (place c f) None) (place c q) None ≡ Some (trailer h q)
      there q le i =
          get_or-set_other es _ _ None None (λ e. place_apart c f q one (omega arith) (omega arith) (sym e))
          ∙ di.there q (omega arith) i

      only : (i : ℕ) (t : Trailer) → get_or (set es (place c f) None) i None ≡ Some t → OfEntry h c (f + 1) i t
      only i t is =
          let (ne, was) = set_none es (place c f) i t (omega (arith, place_lt c f pos, di.size)) is in
          let (q, inh, le, at, same) = di.only i t was in
          let off : q ≢ f = λ w. ne (sym at ∙ ap (place c) w) in
          (q, inh, omega arith, at, same)

  -- The next number is entered, that of page e.
  pub directory_entered : (e : Page) → 1 ≤ c → f ≤ length h + 1 → length h + 1 < f + c → Directory es c f h
      → Directory (set es (place c (length h + 1)) (Some e.trailer)) c f (grown h e)
  directory_entered e pos le near di =
      record { size = omega (arith, length-set es next (Some e.trailer), di.size); there = there; only = only }
    where
      next : ℕ
      next = place c (length h + 1)

      here : next < length es
      here = omega (arith, place_lt c (length h + 1) pos, di.size)

      there : (q : ℕ) → f ≤ q → In (grown h e) q
          → get_or (set es next (Some e.trailer)) (place c q) None ≡ Some (trailer (grown h e) q)
      there q low i =
          elim (in_grown h e q i) [
            | inl old ↦
                get_or-set_other es _ _ _ None (place_apart c q (length h + 1) old.0 (omega arith) (omega arith))
                ∙ di.there q low old ∙ ap Some (sym (trailer_old h e q old))
            | inr new ↦
                set_at es next (place c q) _ here (ap (place c) new)
                ∙ ap Some (sym (trailer_new h e)) ∙ ap (λ k. Some (trailer (grown h e) k)) (sym new)
          ]

      only : (i : ℕ) (t : Trailer) → get_or (set es next (Some e.trailer)) i None ≡ Some t
          → OfEntry (grown h e) c f i t
      only i t is =
          elim (set_some es next i (Some e.trailer) t here is) [
            | inl (eq, same) ↦
                let new = trailer_new h e in
                (length h + 1, in_new h e, le, sym eq, cc)
            | inr (ne, was) ↦
                let (q, inh, low, at, same) = di.only i t was in
                (q, in_old h e q inh, low, at, same ∙ sym (trailer_old h e q inh))
          ]

-- An entry of page p has a trailer of page p.
page_of_some : (o : Option Trailer) (p : ℕ) → page_of o ≡ Some p → (t : Trailer) × (o ≡ Some t) × (t.page ≡ p)
page_of_some None p e = let z : ◌≡◌ {A = ℕ} 0 1 = cc in absurd (omega arith)
page_of_some (Some t) p e = (t, refl, cc)

-- The valid entry o of page p, from front f on: that of the page's last number, if that is live.
abbrev pub Valid : History → ℕ → ℕ → Option Trailer → Type 0
Valid h f p o =
    ((o ≡ None) × ((q : ℕ) → f ≤ q → In h q → (trailer h q).page ≢ p))
    ⊎ ((q : ℕ) × Latest h p q × (f ≤ q) × (o ≡ Some (trailer h q)))

-- The search of a directory finds it.
module _ (es : List (Option Trailer)) (c f d : ℕ) (h : History) (pos : 1 ≤ c) (one : 1 ≤ f)
    (di : Directory es c f h) (wr : Written d h) (p : ℕ) where
  in_size : (q : ℕ) → place c q < length es
  in_size q = omega (arith, place_lt c q pos, di.size)

  valid_from : (r : Option (ℕ × Option Trailer)) → Best page_of number p None 0 es r → Valid h f p (found_entry r)
  valid_from None b =
      inl (refl, λ q low inh is. b (place c q) (in_size q) (ap page_of (di.there q low inh) ∙ ap Some is))
  valid_from (Some (i, x)) (j, at, t) =
      let (u, xu, up) = page_of_some x p t.named in
      let (q, inh, low, pl, same) = di.only j u (sym t.here ∙ xu) in
      let rank : number x ≡ q = ap number xu ∙ ap (λ (k : Trailer). k.q) same ∙ wr.own q inh in
      inr (
        q,
        record {
          there = inh;
          page = ap (λ (k : Trailer). k.page) (sym same) ∙ up;
          last = λ r lt le is.
              let inr' : In h r = (omega arith, le) in
              let there = di.there r (omega arith) inr' in
              let most = t.most (place c r) (in_size r) (ap page_of there ∙ ap Some is) in
              let own : number (get_or es (place c r) None) ≡ r = ap number there ∙ wr.own r inr' in
              omega arith;
        },
        low,
        xu ∙ ap Some same,
      )

  pub valid_is : Valid h f p (found_entry (highest page_of number p es))
  valid_is = valid_from (highest page_of number p es) (highest_best page_of number p None es)

-- The last number of a page, where it is live, has the valid entry.
pub valid_latest : (h : History) (f p q : ℕ) (o : Option Trailer) → Valid h f p o → Latest h p q → f ≤ q
    → o ≡ Some (trailer h q)
valid_latest h f p q o (inl (none, off)) l low = absurd (off q low l.there l.page)
valid_latest h f p q o (inr (r, m, le, is)) l low = is ∙ ap (λ k. Some (trailer h k)) (latest_one h p r q m l)
