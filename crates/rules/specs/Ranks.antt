-- The one lookup: the record of highest rank for a page, the first among equals. A record has a page or none, and a
-- rank. It serves directory entries, whose rank is their number, and RAM cards, whose rank is their version.
use Rattle.std.specs.Prelude.{ℕ, ◌+◌, Bool, false, cond, List, [], ◌∷◌, Some, None, Option, ◌==◌, nat_lt}

abbrev pub names : Option ℕ → ℕ → Bool
names None p = false
names (Some x) p = x == p

module _ {X : Type 0} (page : X → Option ℕ) (rank : X → ℕ) (p : ℕ) where
  -- The better of x, at index i, and what was found further on.
  abbrev pub better : ℕ → X → Option (ℕ × X) → Option (ℕ × X)
  better i x None = Some (i, x)
  better i x (Some (j, y)) = cond (nat_lt (rank x) (rank y)) (Some (j, y)) (Some (i, x))

  -- Among records of which the first has index i.
  abbrev pub found : ℕ → List X → Option (ℕ × X)
  found i [] = None
  found i (x ∷ xs) = cond (names (page x) p) (better i x (found (i + 1) xs)) (found (i + 1) xs)

  -- The index of the record, and the record.
  abbrev pub highest : List X → Option (ℕ × X)
  highest xs = found 0 xs

-- Where it was found.
abbrev pub found_at : {X : Type 0} → Option (ℕ × X) → Option ℕ
found_at None = None
found_at (Some (i, x)) = Some i
