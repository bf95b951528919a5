-- What a search over a range of numbers found.
use Rattle.std.proofs.Common.{◌≡◌, ℕ, ◌+◌, ◌<◌, Bool, true, false, length, get_or, Decides, MatchBool, sym, refl, subst, ◌∙◌, arith}
use Rattle.std.specs.List.{range_with_len, AllWithin, HoldsAt}
use Rattle.std.proofs.lemmas.Bool.{false≢true}
use Rattle.std.proofs.lemmas.List.FromFn.{length-range_with_len, get_or-range_with_len}

module _ (P : ℕ → Type 0) (n : ℕ) where
  at : (k d : ℕ) → k < n → get_or (range_with_len 0 n) k d ≡ k
  at k d lt = let e : 0 + k ≡ k = omega arith in get_or-range_with_len 0 n k d lt ∙ e

  pub all_of_range : (r : Bool)
      → MatchBool r (AllWithin P (range_with_len 0 n) 0 (length (range_with_len 0 n)))
      ((k : ℕ) × (k < length (range_with_len 0 n)) × HoldsAt (λ x. P x → ⊥) (range_with_len 0 n) k)
      → Decides r ((k : ℕ) → k < n → P k)
  all_of_range true h =
      let long = length-range_with_len 0 n in
      (λ _. λ k lt. subst P (at k k lt) (h k k (omega arith) (omega arith)), λ _. refl)
  all_of_range false h =
      let long = length-range_with_len 0 n in
      let lt : h.0 < n = omega (arith, h.1) in
      (λ e. absurd (false≢true e), λ all. absurd (h.2 0 (subst P (sym (at h.0 0 lt)) (all h.0 lt))))

  pub any_of_range : (r : Bool)
      → MatchBool r ((k : ℕ) × (k < length (range_with_len 0 n)) × HoldsAt P (range_with_len 0 n) k)
      (AllWithin (λ x. P x → ⊥) (range_with_len 0 n) 0 (length (range_with_len 0 n)))
      → Decides r ((k : ℕ) × (k < n) × P k)
  any_of_range true h =
      let long = length-range_with_len 0 n in
      let lt : h.0 < n = omega (arith, h.1) in
      (λ _. (h.0, lt, subst P (at h.0 0 lt) (h.2 0)), λ _. refl)
  any_of_range false h =
      let long = length-range_with_len 0 n in (
        λ e. absurd (false≢true e),
        λ w. absurd (h w.0 0 (omega arith) (omega (arith, w.1)) (subst P (sym (at w.0 0 w.1)) w.2)),
      )
