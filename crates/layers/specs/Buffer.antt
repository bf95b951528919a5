-- When a read buffer is in order, and what a read finds in it.
use Rattle.std.specs.Prelude.{◌≡◌, ℕ, true, cond, All, Some, None, Ok, Option, Result, ◌==◌}
use Rattle.medium.specs.declared.Cause.{Cause}
use Rattle.medium.specs.declared.Medium.{Ghosts}
use Rattle.medium.specs.Meaning.{Bytes, Meaning, page}
use Rattle.medium.specs.Rules.{reads}
use Rattle.layers.specs.declared.copies.Sheet.{Sheet}
use Rattle.layers.specs.declared.copies.Copies.{Copies}
use Rattle.layers.specs.declared.read_buffer.ReadBuffer.{ReadBuffer}
use Rattle.layers.specs.Copies.{found}

-- A copy agrees with a medium that is lit and has that page with these bytes.
abbrev pub Agrees : Meaning → Sheet → Type 0
Agrees m s = (m.lit ≡ true) × (page m s.page ≡ Some s.bytes)

abbrev pub Agreed : Meaning → Copies → Type 0
Agreed m cs = All (Agrees m) cs.sheets.items

-- What a read of page i into n bytes finds, in the copy of the page or else in the medium.
abbrev pub copy_or_reads : Option Sheet → Meaning → ℕ → ℕ → Result Bytes Cause
copy_or_reads None m i n = reads m i n
copy_or_reads (Some s) m i n = cond (n == 256) (Ok s.bytes) (reads m i n)

module _ {M : Type 0} (m : Ghosts M) where
  abbrev pub InOrder : ReadBuffer M → Type 0
  InOrder b = m.inorder b.below × Agreed (m.means b.below) b.copies

  abbrev pub finds : ReadBuffer M → ℕ → ℕ → Result Bytes Cause
  finds b i n = copy_or_reads (found i b.copies) (m.means b.below) i n

-- If there is a copy of page i, then a read into n bytes, if these are a page's, leaves the medium below alone.
abbrev pub Spares : {M : Type 0} → ReadBuffer M → ReadBuffer M → ℕ → ℕ → Type 0
Spares b a i n = (s : Sheet) → found i b.copies ≡ Some s → n ≡ 256 → a.below ≡ b.below
