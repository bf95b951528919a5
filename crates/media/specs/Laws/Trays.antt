-- A tray's coding shows what it writes.
use Rattle.std.proofs.Common.{◌≡◌, ℕ, ◌+◌, ◌*◌, ◌/◌, ◌<◌, ◌≤◌, min, Bool, true, false, cond, eqb, ◌⊎◌, length, get_or, take, drop, set, Some, None, sym, ap, ◌∙◌, inl, inr, ⊎_elim, arith, length-drop, length-set, length-take}
use Rattle.std.proofs.lemmas.List.{same_lists, set-get_or, get_or-set_same, get_or-set_other, get_or-take, get_or-drop}
use Rattle.std.proofs.lemmas.Bool.{cases_lt}
use Rattle.medium.specs.Meaning.{Bytes, Page, Left, old, new, torn, leaves}
use Rattle.media.specs.Lent.{Shows, pages, over}
use Rattle.media.specs.Tray.{tray_count, tray_page, tray_put, tray_torn, tray_cut, tray_coding}
use Rattle.media.specs.Laws.Pages.{pages_set, getD_pages}
use Rattle.media.specs.Laws.Overwrites.{length_over, over_inside, over_below, over_above}

-- A page is its 257 bytes.
page_same : (xs ys : Bytes) (i : ℕ) → length ys ≡ length xs
    → ((k d : ℕ) → k < 257 → get_or ys (i * 257 + k) d ≡ get_or xs (i * 257 + k) d) → tray_page ys i ≡ tray_page xs i
page_same xs ys i len eq =
    let content : take 256 (drop (i * 257) ys) ≡ take 256 (drop (i * 257) xs) =
    same_lists _ _ (simp (length-take, length-drop, len))
    (λ k d h.
    let hk : k < 256 = omega (arith, length-take 256 (drop (i * 257) ys)) in
    rw (get_or-take, get_or-take, get_or-drop, get_or-drop) (eq k d (omega arith))) in
    let mark : get_or ys (i * 257 + 256) 0 ≡ get_or xs (i * 257 + 256) 0 = eq 256 0 (omega arith) in
    rw (content, mark)

module _ (bs from : Bytes) (i : ℕ) (inside : i < tray_count bs) (len : length from ≡ 256) where
  fits : i * 257 + length from ≤ length bs
  fits = omega arith

  length_put : length (tray_put bs i from) ≡ length bs
  length_put = length-set (over bs (i * 257) from) (i * 257 + 256) 1 ∙ length_over bs from (i * 257) fits

  mark_put : get_or (tray_put bs i from) (i * 257 + 256) 0 ≡ 1
  mark_put =
      let long = length_over bs from (i * 257) fits in
      get_or-set_same (over bs (i * 257) from) (i * 257 + 256) 1 0 (omega arith)

  -- a byte of the page's content, and one of another page
  abbrev Elsewhere : ℕ → Type 0
  Elsewhere q = (q < i * 257) ⊎ (i * 257 + 257 ≤ q)

  content_at : (k d : ℕ) → k < 256 → get_or (tray_put bs i from) (i * 257 + k) d ≡ get_or from k d
  content_at k d h =
      get_or-set_other (over bs (i * 257) from) (i * 257 + 256) (i * 257 + k) 1 d (λ e. omega arith)
      ∙ over_inside bs from (i * 257) fits k d (omega arith)

  other_at : (q d : ℕ) → Elsewhere q → get_or (tray_put bs i from) q d ≡ get_or bs q d
  other_at q d (inl below) =
      get_or-set_other (over bs (i * 257) from) (i * 257 + 256) q 1 d (λ e. omega arith)
      ∙ over_below bs from (i * 257) fits q d below
  other_at q d (inr above) =
      get_or-set_other (over bs (i * 257) from) (i * 257 + 256) q 1 d (λ e. omega arith)
      ∙ over_above bs from (i * 257) fits q d (omega arith)

  content_put : take 256 (drop (i * 257) (tray_put bs i from)) ≡ from
  content_put =
      same_lists _ _ (simp (length-take, length-drop, length_put) (omega arith))
      (λ k d h.
      let kl : k < 256 = omega (arith, length-take 256 (drop (i * 257) (tray_put bs i from))) in
      rw (get_or-take, get_or-drop) (content_at k d kl))

  -- bytes that are the same elsewhere show the same other pages
  shown : (ys : Bytes) (v : Page) → length ys ≡ length bs → tray_page ys i ≡ v
      → ((q d : ℕ) → Elsewhere q → get_or ys q d ≡ get_or bs q d)
      → pages tray_coding ys ≡ set (pages tray_coding bs) i v
  shown ys v long here same =
      pages_set tray_coding bs ys i v (ap (λ n. min (n / 257) 65535) long) inside here
      (λ k lt ne. page_same bs ys k long (λ j d h. same (k * 257 + j) d (side k j ne h)))
    where
      side : (k j : ℕ) → (k ≡ i → ⊥) → j < 257 → Elsewhere (k * 257 + j)
      side k j ne h = ⊎_elim (λ (l : k < i). inl (omega arith)) (λ (l : i ≤ k). inr (omega arith)) (cases_lt k i)

  tray_put_shows : pages tray_coding (tray_put bs i from) ≡ set (pages tray_coding bs) i (Some from)
  tray_put_shows = shown (tray_put bs i from) (Some from) length_put (rw (mark_put, content_put)) other_at

  tray_torn_shows : pages tray_coding (tray_torn bs i) ≡ set (pages tray_coding bs) i None
  tray_torn_shows =
      let mark : get_or (tray_torn bs i) (i * 257 + 256) 0 ≡ 2 = get_or-set_same bs (i * 257 + 256) 2 0 (omega arith) in
      shown (tray_torn bs i) None (length-set bs (i * 257 + 256) 2) (rw mark)
      (λ q d side.
      get_or-set_other bs (i * 257 + 256) q 2 d
      (λ e. ⊎_elim (λ (h : q < i * 257). omega arith) (λ (h : i * 257 + 257 ≤ q). omega arith) side))

  -- by the strike's number
  cut_by : (a b : Bool)
      → (w : Left)
      × (pages tray_coding (cond a bs (cond b (tray_put bs i from) (tray_torn bs i)))
      ≡ set (pages tray_coding bs) i (leaves w (tray_page bs i) from))
  cut_by true b = (
    old,
    sym (ap (set (pages tray_coding bs) i) (sym (getD_pages tray_coding bs i None inside))
        ∙ set-get_or (pages tray_coding bs) i None),
  )
  cut_by false true = (new, tray_put_shows)
  cut_by false false = (torn, tray_torn_shows)

  tray_cut_shows : (strike : ℕ)
      → (w : Left)
      × (pages tray_coding (tray_cut strike bs i from) ≡ set (pages tray_coding bs) i (leaves w (tray_page bs i) from))
  tray_cut_shows strike = cut_by (eqb strike 0) (eqb strike 1)

pub tray_shows : Shows tray_coding
tray_shows = record {
  put_shows = λ bs from i inside len. tray_put_shows bs from i inside len;
  cut_shows = λ strike bs from i inside len. tray_cut_shows bs from i inside len strike;
}
