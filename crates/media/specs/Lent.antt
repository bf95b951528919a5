-- A medium over lent bytes: what the tray and the card share.
use Rattle.std.specs.Prelude.{◌≡◌, ℕ, ◌+◌, ◌-◌, ◌<◌, Bool, true, false, cond, List, [], ◌++◌, map, length, take, drop, Some, None, Option, Result, ◌==◌, slice_set}
use Rattle.std.specs.List.{range_with_len}
use Rattle.medium.specs.declared.Cause.{Cause}
use Rattle.medium.specs.declared.Cause.TheVariants.{Dark}
use Rattle.medium.specs.Meaning.{Bytes, Page, Left, Meaning, leaves}
use Rattle.medium.specs.Outcome.{Outcome, done, refused}
use Rattle.medium.specs.Rules.{refusal, unless_refused}

-- Such a medium taken apart: what the lent slice holds, spare bytes too, the number that says what a strike leaves, the
-- charge, and the light.
pub record Parts : Type 0 where
  pub bytes : Bytes
  pub strike : ℕ
  pub charge : ℕ
  pub lit : Bool

-- As it is made: lit, over the bytes as they are.
abbrev pub fresh : Bytes → ℕ → ℕ → Parts
fresh bs strike charge = record { bytes = bs; strike = strike; charge = charge; lit = true }

abbrev pub relit_lent : Parts → ℕ → Parts
relit_lent e c = record { bytes = e.bytes; strike = e.strike; charge = c; lit = true }

-- The bytes xs with ys over those from a place on.
abbrev pub over : Bytes → ℕ → Bytes → Bytes
over xs at ys = take at xs ++ (ys ++ drop (at + length ys) xs)

-- How pages lie in bytes: how many there are, what page i is, the bytes after page i was written, and the bytes after a
-- strike in that write, by the number given at the making.
pub record Coding : Type 0 where
  pub count : Bytes → ℕ
  pub decode : Bytes → ℕ → Page
  pub put : Bytes → ℕ → Bytes → Bytes
  pub cut : ℕ → Bytes → ℕ → Bytes → Bytes

module _ (c : Coding) where
  unfoldable pub pages : Bytes → List Page
  pages bs = map (c.decode bs) (range_with_len 0 (c.count bs))

  -- What such a medium means.
  abbrev pub means : Parts → Meaning
  means e = record { pages = pages e.bytes; charge = e.charge; lit = e.lit }

  abbrev pub refuses_lent : Parts → ℕ → ℕ → Option Cause
  refuses_lent e i n = refusal e.lit (c.count e.bytes) i n

  abbrev pub reads_lent : Parts → ℕ → ℕ → Result Bytes Cause
  reads_lent e i n = unless_refused (refuses_lent e i n) (c.decode e.bytes i)

  -- A write of bs to page i, to the byte: of a strike nothing is open here.
  abbrev pub stored : Parts → ℕ → Bytes → Parts
  stored e i bs =
      record { bytes = c.put e.bytes i bs; strike = e.strike; charge = e.charge - 1; lit = e.lit }

  abbrev pub cut_off : Parts → ℕ → Bytes → Parts
  cut_off e i bs =
      record { bytes = c.cut e.strike e.bytes i bs; strike = e.strike; charge = e.charge; lit = false }

  abbrev pub store_unless : Option Cause → Parts → ℕ → Bytes → Outcome Cause Parts (Unit {0})
  store_unless (Some x) e i bs = refused x e []
  store_unless None e i bs = cond (e.charge == 0) (refused Dark (cut_off e i bs) []) (done tt (stored e i bs) [])

  abbrev pub store : Parts → ℕ → Bytes → Outcome Cause Parts (Unit {0})
  store e i bs = store_unless (refuses_lent e i (length bs)) e i bs

-- What a coding puts is the page then, what it cuts is one of the three that a strike may leave, and no other page
-- changes.
pub record Shows (c : Coding) : Type 0 where
  pub put_shows : (bs from : Bytes) (i : ℕ) → i < c.count bs → length from ≡ 256
      → pages c (c.put bs i from) ≡ slice_set (pages c bs) i (Some from)
  pub cut_shows : (strike : ℕ) (bs from : Bytes) (i : ℕ) → i < c.count bs → length from ≡ 256
      → (w : Left) × (pages c (c.cut strike bs i from) ≡ slice_set (pages c bs) i (leaves w (c.decode bs i) from))
