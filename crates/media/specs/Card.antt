-- A card's bytes: 272 a page, 16 sectors of 16 content bytes and a tick.
use Rattle.std.specs.Prelude.{◌≡◌, ℕ, zero, suc, ◌+◌, ◌*◌, ◌/◌, ◌%◌, ◌<◌, ◌≤◌, min, Bool, true, false, cond, not, ◌&&◌, ◌||◌, map, length, take, drop, Some, None, Option, MatchOption, ◌==◌, ◌≢◌, slice_index, slice_set}
use Rattle.std.specs.List.{range_with_len}
use Rattle.medium.specs.Meaning.{Bytes, Page}
use Rattle.media.specs.Lent.{Coding, over}

abbrev pub card_count : Bytes → ℕ
card_count bs = min (length bs / 272) 65535

-- The bytes of page i alone: in these it is page 0.
abbrev pub sectors_of : Bytes → ℕ → Bytes
sectors_of bs i = take 272 (drop (i * 272) bs)

-- The tick of sector s of page i, and byte k of its content.
abbrev pub tick : Bytes → ℕ → ℕ → ℕ
tick bs i s = slice_index bs (i * 272 + s * 17 + 16)

abbrev pub content : Bytes → ℕ → ℕ → ℕ
content bs i k = slice_index bs (i * 272 + k / 16 * 17 + k % 16)

-- A page is whole when its 16 ticks are equal and not 0.
abbrev pub Whole : Bytes → ℕ → Type 0
Whole bs i = (tick bs i 0 ≢ 0) × ((s : ℕ) → s < 16 → tick bs i s ≡ tick bs i 0)

-- The same as a test; `level`: the first n sectors carry the tick t.
unfoldable pub level : Bytes → ℕ → ℕ → ℕ → Bool
level bs i t zero = true
level bs i t (suc n) = tick bs i n == t && level bs i t n

unfoldable pub whole : Bytes → ℕ → Bool
whole bs i = not (tick bs i 0 == 0) && level bs i (tick bs i 0) 16

unfoldable pub card_page : Bytes → ℕ → Page
card_page bs i = cond (whole bs i) (Some (map (content bs i) (range_with_len 0 256))) None

-- Some sector of the page carries the tick t; as a test, some sector of the first n.
abbrev pub Carried : Bytes → ℕ → ℕ → Type 0
Carried bs i t = (s : ℕ) × (s < 16) × (tick bs i s ≡ t)

unfoldable pub carries : Bytes → ℕ → ℕ → ℕ → Bool
carries bs i t zero = false
carries bs i t (suc n) = tick bs i n == t || carries bs i t n

-- The first tick from t on that no sector carries, looking at n.
unfoldable pub free_from : Bytes → ℕ → ℕ → ℕ → ℕ
free_from bs i t zero = t
free_from bs i t (suc n) = cond (carries bs i t 16) (free_from bs i (t + 1) n) t

-- The tick of the next write.
abbrev pub next_tick : Bytes → ℕ → ℕ
next_tick bs i = free_from bs i 1 254

-- It is the smallest from 1 to 255 that no sector of the page carries.
pub record NextTick (bs : Bytes) (i t : ℕ) : Type 0 where
  pub low : 1 ≤ t
  pub high : t ≤ 255
  pub free : Carried bs i t → ⊥
  pub smallest : (u : ℕ) → 1 ≤ u → u < t → Carried bs i u

-- What a search from a tick on finds: the first that no sector carries, or none below 255.
abbrev pub FirstFree : Bytes → ℕ → ℕ → Option ℕ → Type 0
FirstFree bs i from r = MatchOption r ((t : ℕ) → from ≤ t → t < 255 → Carried bs i t)
    (λ t. (from ≤ t) × (t < 255) × (Carried bs i t → ⊥) × ((u : ℕ) → from ≤ u → u < t → Carried bs i u))

-- A sector written at its place: 16 bytes of content, then the tick.
abbrev pub put_at : Bytes → ℕ → Bytes → ℕ → Bytes
put_at bs at part t = slice_set (over bs at part) (at + 16) t

-- The first n sectors of page i written, in rising order, with the tick t.
unfoldable pub put_sectors : Bytes → ℕ → ℕ → Bytes → ℕ → Bytes
put_sectors bs i t from zero = bs
put_sectors bs i t from (suc n) =
    put_at (put_sectors bs i t from n) (i * 272 + n * 17) (take 16 (drop (n * 16) from)) t

abbrev pub card_put : Bytes → ℕ → Bytes → Bytes
card_put bs i from = put_sectors bs i (next_tick bs i) from 16

-- A strike stops after so many sectors as was given at the making, 16 at most.
abbrev pub card_cut : ℕ → Bytes → ℕ → Bytes → Bytes
card_cut stop bs i from = put_sectors bs i (next_tick bs i) from (min stop 16)

abbrev pub card_coding : Coding
card_coding = record { count = card_count; decode = card_page; put = card_put; cut = card_cut }
