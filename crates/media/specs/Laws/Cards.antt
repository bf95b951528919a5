-- A card's coding shows what it writes.
use Rattle.std.proofs.Common.{◌≡◌, ℕ, zero, suc, ◌+◌, ◌*◌, ◌/◌, ◌%◌, ◌<◌, ◌≤◌, min, false, cond, not, ◌&&◌, eqb, map, length, get_or, set, Some, None, sym, refl, ap, ◌∙◌, subst, ⊎_elim, arith}
use Rattle.std.specs.List.{range_with_len}
use Rattle.std.proofs.lemmas.List.FromFn.{fill_by_all}
use Rattle.std.proofs.lemmas.Bool.{cases_eq, cases_lt, cases_Bool}
use Rattle.medium.specs.Meaning.{Bytes, Left, old, new, torn, leaves}
use Rattle.media.specs.Lent.{Shows, pages}
use Rattle.media.specs.Card.{card_count, tick, content, level, Whole, whole, card_page}
use Rattle.media.specs.Card.{next_tick, NextTick, put_sectors, card_put, card_cut, card_coding}
use Rattle.media.specs.Laws.Counted.{counted_same}
use Rattle.media.specs.Laws.Pages.{pages_set}
use Rattle.media.specs.Laws.Putting.{SectorsPut, sectors_put}
use Rattle.media.specs.Laws.Ticks.{whole_decides, next_tick_is}

level_same : (xs ys : Bytes) (i j t n : ℕ) → ((s : ℕ) → s < n → tick ys j s ≡ tick xs i s)
    → level ys j t n ≡ level xs i t n
unfolding level
level_same xs ys i j t zero eq = refl
level_same xs ys i j t (suc n) eq =
    ap (λ x. eqb x t && level ys j t n) (eq n (omega arith))
    ∙ ap (λ b. eqb (tick xs i n) t && b) (level_same xs ys i j t n (λ s h. eq s (omega arith)))

whole_same : (xs ys : Bytes) (i j : ℕ) → ((s : ℕ) → s < 16 → tick ys j s ≡ tick xs i s) → whole ys j ≡ whole xs i
unfolding whole
whole_same xs ys i j eq =
    ap (λ t. not (eqb t 0) && level ys j t 16) (eq 0 (omega arith))
    ∙ ap (λ b. not (eqb (tick xs i 0) 0) && b) (level_same xs ys i j (tick xs i 0) 16 eq)

-- A page is its ticks and its content.
pub page_by : (xs ys : Bytes) (i j : ℕ) → ((s : ℕ) → s < 16 → tick ys j s ≡ tick xs i s)
    → ((k : ℕ) → k < 256 → content ys j k ≡ content xs i k) → card_page ys j ≡ card_page xs i
unfolding card_page
page_by xs ys i j ticks contents =
    let m = counted_same (content xs i) (content ys j) 256 contents in
    ap (λ b. cond b (Some (map (content ys j) (range_with_len 0 256))) None) (whole_same xs ys i j ticks)
    ∙ ap (λ c. cond (whole xs i) (Some c) None) m

-- A page is its 272 bytes.
page_same : (xs ys : Bytes) (i : ℕ) → ((q : ℕ) → i * 272 ≤ q → q < i * 272 + 272 → get_or ys q 0 ≡ get_or xs q 0)
    → card_page ys i ≡ card_page xs i
page_same xs ys i eq =
    page_by xs ys i i (λ s h. eq (i * 272 + s * 17 + 16) (omega arith) (omega arith))
    (λ k h. eq (i * 272 + k / 16 * 17 + k % 16) (omega arith) (omega arith))

-- What a whole page is, and one that is not.
pub page_whole : (bs : Bytes) (i : ℕ) → Whole bs i → card_page bs i ≡ Some (map (content bs i) (range_with_len 0 256))
unfolding card_page
page_whole bs i w = rw ((whole_decides bs i).1 w)

pub page_none : (bs : Bytes) (i : ℕ) → (Whole bs i → ⊥) → card_page bs i ≡ None
unfolding card_page
page_none bs i no_whole =
    let e : whole bs i ≡ false =
    ⊎_elim (λ z. absurd (no_whole ((whole_decides bs i).0 z))) (λ z. z) (cases_Bool (whole bs i)) in
    rw e

count_same : (xs ys : Bytes) → length ys ≡ length xs → card_count ys ≡ card_count xs
count_same xs ys len = ap (λ n. min (n / 272) 65535) len

module _ (bs from : Bytes) (i : ℕ) (inside : i < card_count bs) (len : length from ≡ 256) where
  whole_by : (ys : Bytes) (t : ℕ) → 1 ≤ t → ((s : ℕ) → s < 16 → tick ys i s ≡ t) → Whole ys i
  whole_by ys t lo eq =
      let first = eq 0 (omega arith) in
      (λ z. omega arith, λ s h. eq s h ∙ sym first)

  new_page : (ys : Bytes) (t : ℕ) → 1 ≤ t → SectorsPut bs ys from i t 16 → card_page ys i ≡ Some from
  new_page ys t lo put =
      page_whole ys i (whole_by ys t lo put.ticks)
      ∙ ap Some
      (sym (fill_by_all (content ys i) from 256 0 len
      (λ k h.
      let e : k / 16 * 16 + k % 16 ≡ k = omega arith in
      sym (put.bytes (k / 16) (k % 16) (omega arith) (omega arith) ∙ ap (λ n. get_or from n 0) e))))

  -- the first sector has the new tick, and the last has not
  torn_page : (ys : Bytes) (t n : ℕ) → 0 < n → n < 16 → NextTick bs i t → SectorsPut bs ys from i t n
      → card_page ys i ≡ None
  torn_page ys t n some less next put =
      page_none ys i
      (λ w. next.free (
        15,
        omega arith,
        sym (put.above (i * 272 + 15 * 17 + 16) (omega arith)) ∙ w.1 15 (omega arith) ∙ put.ticks 0 some,
      ))

  others : (ys : Bytes) (t n : ℕ) → n ≤ 16 → SectorsPut bs ys from i t n → (k : ℕ) → (k ≡ i → ⊥)
      → card_page ys k ≡ card_page bs k
  others ys t n top put k ne =
      page_same bs ys k
      (λ q lo hi. ⊎_elim
      (λ (h : k < i). put.below q (omega arith))
      (λ (h : i ≤ k). put.above q (omega arith))
      (cases_lt k i))

  -- the first n sectors leave the old page, the new one or a torn one
  left_by : (n : ℕ) → n ≤ 16 → (w : Left)
      × (card_page (put_sectors bs i (next_tick bs i) from n) i ≡ leaves w (card_page bs i) from)
  left_by n top =
      let t = next_tick bs i in
      let ys = put_sectors bs i t from n in
      let next = next_tick_is bs i in
      let put = sectors_put bs from i t inside len n top in
      ⊎_elim
      (λ (z : n ≡ 0). (old, page_same bs ys i (λ q lo hi. put.above q (omega arith))))
      (λ nz. ⊎_elim
      (λ (h : n < 16). (torn, torn_page ys t n (omega arith) h next put))
      (λ (h : 16 ≤ n).
      let e : n ≡ 16 = omega arith in
      (new, new_page ys t next.low (subst (λ (m : ℕ). SectorsPut bs ys from i t m) e put)))
      (cases_lt n 16))
      (cases_eq n 0)

  shown : (n : ℕ) → n ≤ 16 → (v : _) → card_page (put_sectors bs i (next_tick bs i) from n) i ≡ v
      → pages card_coding (put_sectors bs i (next_tick bs i) from n) ≡ set (pages card_coding bs) i v
  shown n top v here =
      let t = next_tick bs i in
      let ys = put_sectors bs i t from n in
      let put = sectors_put bs from i t inside len n top in
      pages_set card_coding bs ys i v (count_same bs ys put.long) inside here (λ k lt ne. others ys t n top put k ne)

  pub card_put_shows : pages card_coding (card_put bs i from) ≡ set (pages card_coding bs) i (Some from)
  card_put_shows =
      shown 16 (omega arith) (Some from)
      (new_page (card_put bs i from) (next_tick bs i) (next_tick_is bs i).low
      (sectors_put bs from i (next_tick bs i) inside len 16 (omega arith)))

  pub card_cut_shows : (stop : ℕ) → (w : Left)
      × (pages card_coding (card_cut stop bs i from) ≡ set (pages card_coding bs) i (leaves w (card_page bs i) from))
  card_cut_shows stop =
      let top : min stop 16 ≤ 16 = omega arith in
      let w = left_by (min stop 16) top in
      (w.0, shown (min stop 16) top (leaves w.0 (card_page bs i) from) w.1)

pub card_shows : Shows card_coding
card_shows = record {
  put_shows = λ bs from i inside len. card_put_shows bs from i inside len;
  cut_shows = λ strike bs from i inside len. card_cut_shows bs from i inside len strike;
}
