-- The directory for a flash of s groups, one number and then all.
use Rattle.std.specs.Prelude.{ℕ, zero, suc, ◌+◌, ◌-◌, ◌*◌, ◌/◌, ◌%◌, cond, List, Some, None, Ok, Err, Option, Result, nat_lt, slice_index_or, slice_set}
use Rattle.rules.specs.declared.fault.Fault.{Fault}
use Rattle.rules.specs.declared.trailer.Trailer.{Trailer}
use Rattle.rules.specs.Format.{Segment}
use Rattle.rules.specs.Queue.{place}
use Rattle.rules.specs.Recovery.{Entries, foreign_at, nth, of_group, no_entries}

-- What is known of number q.
abbrev pub described_in : ℕ → List (Option Segment) → ℕ → List Trailer → ℕ → Option Trailer
described_in s gs b ts q =
    cond (nat_lt b q) (nth ts (q - b - 1)) (of_group q (slice_index_or gs ((q - 1) / 15 % (s + 1)) None))

-- Put into its slot, among c frames.
abbrev pub placed_in : ℕ → Option Trailer → ℕ → Result Entries Fault → Result Entries Fault
placed_in c None q rest = Err (foreign_at (place c q))
placed_in c (Some t) q (Err e) = Err e
placed_in c (Some t) q (Ok es) = Ok (slice_set es (place c q) (Some t))

-- The n numbers from q on.
abbrev pub gathered : ℕ → List (Option Segment) → ℕ → List Trailer → ℕ → ℕ → Result Entries Fault
gathered s gs b ts zero q = Ok no_entries
gathered s gs b ts (suc n) q = placed_in (15 * s) (described_in s gs b ts q) q (gathered s gs b ts n (q + 1))
