-- What a window shows of the medium below.
use Rattle.std.specs.Prelude.{◌≡◌, ℕ, ◌+◌, min, cond, List, take, drop, nat_lt}
use Rattle.medium.specs.declared.Cause.{Cause}
use Rattle.medium.specs.declared.Medium.{Ghosts}
use Rattle.medium.specs.Meaning.{Bytes, Page, Meaning, size}
use Rattle.medium.specs.Outcome.{Outcome}
use Rattle.medium.specs.Rules.{write}
use Rattle.layers.specs.declared.window.Window.{Window}

-- The pages from `first` on, `count` of them where there are as many.
unfoldable pub part : ℕ → ℕ → List Page → List Page
part first count ps = take count (drop first ps)

abbrev pub windowed : ℕ → ℕ → Meaning → Meaning
windowed first count m = record { pages = part first count m.pages; charge = m.charge; lit = m.lit }

-- The page below that page i of a window is, if there are so many pages below. For a page outside the window it is
-- the page after the last one below, which is outside there too: so the medium below answers dark before outside.
abbrev pub place : ℕ → ℕ → ℕ → ℕ → ℕ
place first count pages i = cond (nat_lt i count) (min (first + i) pages) pages

module _ {M : Type 0} (m : Ghosts M) where
  -- What a window means.
  abbrev pub view : Window M → Meaning
  view w = windowed w.first w.count (m.means w.below)

  abbrev pub spot : Window M → ℕ → ℕ
  spot w i = place w.first w.count (size (m.means w.below)) i

  -- A write of page i of a window, as it is below.
  abbrev pub write_below : Window M → ℕ → Bytes → Outcome Cause Meaning (Unit {0})
  write_below w i bs = write (m.means w.below) (spot w i) bs

-- A window shows the same places.
abbrev pub Fixed : {M : Type 0} → Window M → Window M → Type 0
Fixed w v = (v.first ≡ w.first) × (v.count ≡ w.count)
