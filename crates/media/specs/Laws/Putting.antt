-- What the bytes of a card are after the first sectors of a page were written.
use Rattle.std.proofs.Common.{◌≡◌, ℕ, zero, suc, ◌+◌, ◌*◌, ◌<◌, ◌≤◌, length, get_or, take, drop, sym, refl, ap, ◌∙◌, ⊎_elim, arith, length-drop, length-set, length-take}
use Rattle.std.proofs.lemmas.List.{get_or-set_same, get_or-set_other, get_or-take, get_or-drop}
use Rattle.std.proofs.lemmas.Bool.{cases_eq}
use Rattle.medium.specs.Meaning.{Bytes}
use Rattle.media.specs.Lent.{over}
use Rattle.media.specs.Card.{card_count, tick, put_at, put_sectors}
use Rattle.media.specs.Laws.Overwrites.{length_over, over_inside, over_below, over_above}

-- One sector.
module _ (bs part : Bytes) (a t : ℕ) (within : a + 17 ≤ length bs) (len : length part ≡ 16) where
  fits : a + length part ≤ length bs
  fits = omega arith

  sector_length : length (put_at bs a part t) ≡ length bs
  sector_length = length-set (over bs a part) (a + 16) t ∙ length_over bs part a fits

  sector_content : (k : ℕ) → k < 16 → get_or (put_at bs a part t) (a + k) 0 ≡ get_or part k 0
  sector_content k h =
      get_or-set_other (over bs a part) (a + 16) (a + k) t 0 (λ e. omega arith)
      ∙ over_inside bs part a fits k 0 (omega arith)

  sector_tick : get_or (put_at bs a part t) (a + 16) 0 ≡ t
  sector_tick =
      let long = length_over bs part a fits in
      get_or-set_same (over bs a part) (a + 16) t 0 (omega arith)

  sector_below : (q : ℕ) → q < a → get_or (put_at bs a part t) q 0 ≡ get_or bs q 0
  sector_below q h =
      get_or-set_other (over bs a part) (a + 16) q t 0 (λ e. omega arith) ∙ over_below bs part a fits q 0 h

  sector_above : (q : ℕ) → a + 17 ≤ q → get_or (put_at bs a part t) q 0 ≡ get_or bs q 0
  sector_above q h =
      get_or-set_other (over bs a part) (a + 16) q t 0 (λ e. omega arith)
      ∙ over_above bs part a fits q 0 (omega arith)

-- In ys the first n sectors of page i are written, and all else is as in xs.
pub record SectorsPut (xs ys from : Bytes) (i t n : ℕ) : Type 0 where
  pub long : length ys ≡ length xs
  pub bytes : (s k : ℕ) → s < n → k < 16 → get_or ys (i * 272 + s * 17 + k) 0 ≡ get_or from (s * 16 + k) 0
  pub ticks : (s : ℕ) → s < n → tick ys i s ≡ t
  pub below : (q : ℕ) → q < i * 272 → get_or ys q 0 ≡ get_or xs q 0
  pub above : (q : ℕ) → i * 272 + n * 17 ≤ q → get_or ys q 0 ≡ get_or xs q 0

module _ (bs from : Bytes) (i t : ℕ) (inside : i < card_count bs) (len : length from ≡ 256) where
  part_at : (n k : ℕ) → k < 16 → get_or (take 16 (drop (n * 16) from)) k 0 ≡ get_or from (n * 16 + k) 0
  part_at n k h = get_or-take 16 (drop (n * 16) from) k 0 h ∙ get_or-drop (n * 16) from k 0

  one_more : (ys : Bytes) (n : ℕ) → n < 16 → SectorsPut bs ys from i t n
      → SectorsPut bs (put_at ys (i * 272 + n * 17) (take 16 (drop (n * 16) from)) t) from i t (suc n)
  one_more ys n lt h =
      let a : ℕ = i * 272 + n * 17 in
      let part : Bytes = take 16 (drop (n * 16) from) in
      let long = h.long in
      let within : a + 17 ≤ length ys = omega arith in
      let size : length part ≡ 16 = simp (length-take, length-drop) (omega arith) in
      record {
        long = sector_length ys part a t within size ∙ long;
        bytes = λ s k ls lk.
            ⊎_elim
            (λ (e : s ≡ n).
            ap (λ m. get_or (put_at ys a part t) (i * 272 + m * 17 + k) 0) e
            ∙ sector_content ys part a t within size k lk ∙ part_at n k lk
            ∙ ap (λ m. get_or from (m * 16 + k) 0) (sym e))
            (λ ne.
            sector_below ys part a t within size (i * 272 + s * 17 + k) (omega arith)
            ∙ h.bytes s k (omega arith) lk)
            (cases_eq s n);
        ticks = λ s ls.
            ⊎_elim
            (λ (e : s ≡ n).
            ap (λ m. get_or (put_at ys a part t) (i * 272 + m * 17 + 16) 0) e
            ∙ sector_tick ys part a t within size)
            (λ ne.
            sector_below ys part a t within size (i * 272 + s * 17 + 16) (omega arith)
            ∙ h.ticks s (omega arith))
            (cases_eq s n);
        below = λ q lo. sector_below ys part a t within size q (omega arith) ∙ h.below q lo;
        above = λ q hi. sector_above ys part a t within size q (omega arith) ∙ h.above q (omega arith);
      }

  pub sectors_put : (n : ℕ) → n ≤ 16 → SectorsPut bs (put_sectors bs i t from n) from i t n
  unfolding put_sectors
  sectors_put zero h = record {
    long = refl;
    bytes = λ s k ls lk. absurd (omega arith);
    ticks = λ s ls. absurd (omega arith);
    below = λ q lo. refl;
    above = λ q hi. refl;
  }
  sectors_put (suc n) h = one_more (put_sectors bs i t from n) n (omega arith) (sectors_put n (omega arith))
