-- The list of all frames.
use Rattle.std.proofs.Common.{◌≡◌, ℕ, zero, suc, ◌+◌, ◌<◌, List, length, get_or, refl, arith}
use Rattle.std.proofs.lemmas.List.{same_lists}
use Rattle.rules.specs.Ram.{numbers, all_frames}

numbers_len : (n i : ℕ) → length (numbers n i) ≡ n
numbers_len zero i = refl
numbers_len (suc n) i = omega (arith, numbers_len n (i + 1))

numbers_at : (n i k : ℕ) (d : ℕ) → k < n → get_or (numbers n i) k d ≡ i + k
numbers_at zero i k d lt = absurd (omega arith)
numbers_at (suc n) i zero d lt = omega arith
numbers_at (suc n) i (suc k) d lt = omega (arith, numbers_at n (i + 1) k d (omega arith))

-- A list of sixteen that has each frame at its place.
pub are_all : (xs : List ℕ) → length xs ≡ 16 → ((k d : ℕ) → k < 16 → get_or xs k d ≡ k) → xs ≡ all_frames
unfolding all_frames
are_all xs long at =
    same_lists xs (numbers 16 0) (omega (arith, numbers_len 16 0))
    (λ k d lt. omega (arith, at k d (omega arith), numbers_at 16 0 k d (omega arith)))
