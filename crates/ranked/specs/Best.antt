-- The lookup, as its answer is a place in a slice, and in words of order.
use Rattle.std.specs.Prelude.{◌≡◌, ℕ, ◌<◌, ◌≤◌, ◌≢◌, List, Some, None, Option, slice_get}
use Rattle.rules.specs.Ranks.{highest, found_at}

module _ {R : Type 0} (page : R → Option ℕ) (rank : R → ℕ) (p : ℕ) where
  -- Where the lookup finds its record.
  abbrev pub highest_place : List R → Option ℕ
  highest_place xs = found_at (highest page rank p xs)

  -- The record x at place i has the page, none that has it has a higher rank, and none before it one as high.
  pub record BestAt (xs : List R) (i : ℕ) (x : R) : Type 0 where
    pub here : slice_get xs i ≡ Some x
    pub has : page x ≡ Some p
    pub most : (j : ℕ) (y : R) → slice_get xs j ≡ Some y → page y ≡ Some p → rank y ≤ rank x
    pub first : (j : ℕ) (y : R) → j < i → slice_get xs j ≡ Some y → page y ≡ Some p → rank y < rank x

  -- None has the page, or some record is the best.
  abbrev pub Best : List R → Option ℕ → Type 0
  Best xs None = (j : ℕ) (y : R) → slice_get xs j ≡ Some y → page y ≢ Some p
  Best xs (Some i) = (x : R) × BestAt xs i x
