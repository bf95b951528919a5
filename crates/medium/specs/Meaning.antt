-- What a medium means: its pages, its charge, and whether it is lit.
use Rattle.std.specs.Prelude.{ℕ, Bool, List, length, Some, None, Option, slice_index_or, slice_set}

-- The bytes of a page, or of a part of one.
abbrev pub Bytes : Type 0
Bytes = List ℕ

-- A page is whole, with its 256 bytes, or unreadable: never written and torn are the same.
abbrev pub Page : Type 0
Page = Option Bytes

-- A charge counts the page writes that are left before the power fails.
pub record Meaning : Type 0 where
  pub pages : List Page
  pub charge : ℕ
  pub lit : Bool

abbrev pub size : Meaning → ℕ
size m = length m.pages

abbrev pub page : Meaning → ℕ → Page
page m i = slice_index_or m.pages i None

-- What a strike leaves of the page that was being written: this alone is open in a strike.
pub data Left : Type 0 where
  old new torn : Left

-- The page then, if it was `was` and `bs` was being written.
abbrev pub leaves : Left → Page → Bytes → Page
leaves old was bs = was
leaves new was bs = Some bs
leaves torn was bs = None

-- Page i changed, with the charge and the light that are left.
abbrev pub with_page : Meaning → ℕ → Page → ℕ → Bool → Meaning
with_page m i p c l = record { pages = slice_set m.pages i p; charge = c; lit = l }
