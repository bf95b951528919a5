-- Lists that are made from a function of the index.
use Rattle.std.proofs.Common.{◌≡◌, ℕ, ◌<◌, List, map, length, get_or, set, sym, ap, ◌∙◌, ⊎_elim, arith, length-set}
use Rattle.std.specs.List.{range_with_len}
use Rattle.std.proofs.lemmas.List.FromFn.{length-map-range_with_len, get_or-map-range_with_len}
use Rattle.std.proofs.lemmas.List.{same_lists, get_or-set_same, get_or-set_other}
use Rattle.std.proofs.lemmas.Bool.{cases_eq}

module _ {X : Type 0} (f g : ℕ → X) (n : ℕ) where
  pub counted_same : ((k : ℕ) → k < n → g k ≡ f k) → map g (range_with_len 0 n) ≡ map f (range_with_len 0 n)
  counted_same eq =
      let a = length-map-range_with_len f 0 n in
      let b = length-map-range_with_len g 0 n in
      same_lists _ _ (b ∙ sym a)
      (λ k d h.
      let kn : k < n = omega arith in
      get_or-map-range_with_len g 0 n k k d kn (omega arith) ∙ eq k kn
      ∙ sym (get_or-map-range_with_len f 0 n k k d kn (omega arith)))

  -- g is f, but for one place
  pub counted_set : (p : ℕ) (v : X) → p < n → g p ≡ v → ((k : ℕ) → k < n → (k ≡ p → ⊥) → g k ≡ f k)
      → map g (range_with_len 0 n) ≡ set (map f (range_with_len 0 n)) p v
  counted_set p v lt here there =
      let a = length-map-range_with_len f 0 n in
      let b = length-map-range_with_len g 0 n in
      let xs : List X = map f (range_with_len 0 n) in
      same_lists _ _ (b ∙ sym a ∙ sym (length-set xs p v))
      (λ k d h.
      let kn : k < n = omega arith in
      let px : p < length xs = omega arith in
      get_or-map-range_with_len g 0 n k k d kn (omega arith)
      ∙ ⊎_elim
      (λ e. ap g e ∙ here ∙ sym (ap (λ j. get_or (set xs p v) j d) e ∙ get_or-set_same xs p v d px))
      (λ ne.
      there k kn ne
      ∙ sym (get_or-set_other xs p k v d ne ∙ get_or-map-range_with_len f 0 n k k d kn (omega arith)))
      (cases_eq k p))
