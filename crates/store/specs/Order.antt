-- The order in which the frames were last taken: each is named once.
use Rattle.std.specs.Prelude.{◌≡◌, ℕ, ◌+◌, ◌<◌, cond, List, [], ◌∷◌, ◌==◌}

-- How often xs names f.
abbrev pub named : ℕ → List ℕ → ℕ
named f [] = 0
named f (x ∷ xs) = cond (x == f) 1 0 + named f xs

abbrev pub Once : List ℕ → Type 0
Once xs = (f : ℕ) → f < 16 → named f xs ≡ 1
