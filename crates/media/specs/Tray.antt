-- A tray's bytes: 257 a page, the content and then a mark, 1 for whole.
use Rattle.std.specs.Prelude.{ℕ, ◌+◌, ◌*◌, ◌/◌, min, cond, length, take, drop, Some, None, ◌==◌, slice_index, slice_set}
use Rattle.medium.specs.Meaning.{Bytes, Page}
use Rattle.media.specs.Lent.{Coding, over}

abbrev pub tray_count : Bytes → ℕ
tray_count bs = min (length bs / 257) 65535

abbrev pub tray_page : Bytes → ℕ → Page
tray_page bs i = cond (slice_index bs (i * 257 + 256) == 1) (Some (take 256 (drop (i * 257) bs))) None

-- A write: the content, then the mark.
abbrev pub tray_put : Bytes → ℕ → Bytes → Bytes
tray_put bs i from = slice_set (over bs (i * 257) from) (i * 257 + 256) 1

-- A torn page has the mark 2: neither whole nor never written.
abbrev pub tray_torn : Bytes → ℕ → Bytes
tray_torn bs i = slice_set bs (i * 257 + 256) 2

-- What a strike leaves, by the number given at the making: 0 old, 1 new, 2 or more torn.
abbrev pub tray_cut : ℕ → Bytes → ℕ → Bytes → Bytes
tray_cut strike bs i from = cond (strike == 0) bs (cond (strike == 1) (tray_put bs i from) (tray_torn bs i))

abbrev pub tray_coding : Coding
tray_coding = record { count = tray_count; decode = tray_page; put = tray_put; cut = tray_cut }
