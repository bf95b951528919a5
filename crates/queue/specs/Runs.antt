-- The segment that a directory gives, by the directory itself.
use Rattle.std.specs.Prelude.{ℕ, zero, suc, ◌+◌, ◌-◌, List, [], ◌∷◌, None, Option, slice_index_or}
use Rattle.rules.specs.declared.trailer.Trailer.{Trailer}
use Rattle.rules.specs.Format.{Segment}
use Rattle.rules.specs.Queue.{place, or_zero}

-- The trailers of n numbers from q on, in a directory es of c frames.
unfoldable pub run_in : ℕ → List (Option Trailer) → ℕ → ℕ → List Trailer
run_in c es zero q = []
run_in c es (suc n) q = or_zero (slice_index_or es (place c q) None) ∷ run_in c es n (q + 1)

-- The segment that ends at number r, with front f.
abbrev pub segment_in : ℕ → List (Option Trailer) → ℕ → ℕ → Segment
segment_in c es f r = record { last = r; front = f; entries = run_in c es 15 (r - 14) }
