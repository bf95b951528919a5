-- The copies that a read buffer keeps of the pages last read or written, the newest first.
use Rattle.std.specs.Prelude.{ℕ, cond, not, List, [], ◌∷◌, length, take, filter, Ok, Err, Option, Result, ◌==◌}
use Rattle.std.specs.List.{find}
use Rattle.medium.specs.declared.Cause.{Cause}
use Rattle.medium.specs.declared.Cause.TheVariants.{Dark, Outside, Length, Unreadable}
use Rattle.medium.specs.Meaning.{Bytes}
use Rattle.layers.specs.declared.copies.Sheet.{Sheet}
use Rattle.layers.specs.declared.copies.Copies.{Copies}

-- A copy of page i.
abbrev pub sheet_of : ℕ → Bytes → Sheet
sheet_of i bs = record { page = i; bytes = bs }

-- The copies, from the newest on.
abbrev pub listed : List Sheet → Copies
listed ss = record { sheets = record { items = ss } }

abbrev pub none : Copies
none = listed []

-- The copy of page i.
abbrev pub found : ℕ → Copies → Option Sheet
found i cs = find (λ s. s.page == i) cs.sheets.items

-- The copies of other pages.
abbrev pub others : ℕ → Copies → List Sheet
others i cs = filter (λ s. not (s.page == i)) cs.sheets.items

-- A new copy comes first, and an older one of its page goes; of five the oldest goes.
abbrev pub kept : Sheet → Copies → Copies
kept new cs = listed (take 4 (new ∷ others new.page cs))

abbrev pub unless_dark : Cause → Copies → Copies
unless_dark Dark cs = none
unless_dark Outside cs = cs
unless_dark Length cs = cs
unless_dark Unreadable cs = cs

-- The copies after a read or a write of page i with these bytes and this answer. A page has 256 bytes: no medium in
-- order takes another number. What a strike left is not known: of a dark medium no copy is kept.
abbrev pub settled : Result (Unit {0}) Cause → ℕ → Bytes → Copies → Copies
settled (Ok _) i bs cs = cond (length bs == 256) (kept (sheet_of i bs) cs) cs
settled (Err e) i bs cs = unless_dark e cs
