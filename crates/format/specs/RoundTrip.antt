-- What is written is read back.
use Rattle.std.specs.Prelude.{◌≡◌, ℕ, ◌+◌, ◌-◌, ◌/◌, ◌%◌, ◌<◌, ◌≤◌, max, List, [], ◌∷◌, ◌++◌, length, take, Some}
use Rattle.medium.specs.Meaning.{Bytes, Meaning}
use Rattle.rules.specs.declared.trailer.Trailer.{Trailer}
use Rattle.rules.specs.Format.{Segment, encode, encode_segment, proper, most}
use Rattle.rules.specs.Queue.{groups, frames}
use Rattle.rules.specs.Recovery.{segment_in}

-- A trailer that may stand on a disk of p pages.
pub record Proper (p : ℕ) (t : Trailer) : Type 0 where
  pub first : 1 ≤ t.q
  pub last : t.q ≤ most
  pub some : 1 ≤ t.version
  pub few : t.version ≤ most
  pub back : t.back < t.q
  pub page : t.page < p

-- Proper trailers with the numbers from q on.
abbrev pub Numbered : ℕ → ℕ → List Trailer → Type 0
Numbered p q [] = Unit {0}
Numbered p q (t ∷ ts) = Proper p t × (t.q ≡ q) × Numbered p (q + 1) ts

-- A segment that may stand in the j-th segment page of the flash m.
pub record Seated (m : Meaning) (p j : ℕ) (g : Segment) : Type 0 where
  pub least : 15 ≤ g.last
  pub greatest : g.last ≤ most
  pub whole : g.last % 15 ≡ 0
  pub place : (g.last / 15 - 1) % (groups m + 1) ≡ j
  pub after : max 1 (g.last + 2 - frames m) ≤ g.front
  pub before : g.front ≤ g.last
  pub fifteen : length g.entries ≡ 15
  pub entries : Numbered p (g.last - 14) g.entries

-- The trailer and the body of a page.
abbrev pub PageReadsBack : Type 0
PageReadsBack =
    (p : ℕ) (body : Bytes) (t : Trailer) → p ≤ 240 → length body ≡ 240 → Proper p t
    → (proper p (body ++ encode t) 240 ≡ Some t) × (take 240 (body ++ encode t) ≡ body)

abbrev pub SegmentReadsBack : Type 0
SegmentReadsBack =
    (m : Meaning) (p j : ℕ) (g : Segment) → p ≤ 240 → Seated m p j g
    → segment_in m p j (encode_segment g) ≡ Some g

-- Different trailers have different bytes.
abbrev pub TrailersDiffer : Type 0
TrailersDiffer = (p : ℕ) (t u : Trailer) → p ≤ 240 → Proper p t → Proper p u → encode t ≡ encode u → t ≡ u
