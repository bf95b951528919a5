-- What stands where after bytes were put over others.
use Rattle.std.proofs.Common.{◌≡◌, ℕ, ◌+◌, ◌<◌, ◌≤◌, List, length, get_or, rules}
use Rattle.std.proofs.lemmas.List.{places}
use Rattle.media.specs.Lent.{over}

module _ (xs ys : List ℕ) (at : ℕ) (fits : at + length ys ≤ length xs) where
  pub length_over : length (over xs at ys) ≡ length xs
  length_over = search (rules, places)

  pub over_inside : (k d : ℕ) → k < length ys → get_or (over xs at ys) (at + k) d ≡ get_or ys k d
  over_inside k d h = search (rules, places)

  pub over_below : (q d : ℕ) → q < at → get_or (over xs at ys) q d ≡ get_or xs q d
  over_below q d h = search (rules, places)

  pub over_above : (q d : ℕ) → at + length ys ≤ q → get_or (over xs at ys) q d ≡ get_or xs q d
  over_above q d h = search (rules, places)
