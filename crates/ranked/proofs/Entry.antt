-- The record that the search found stands at the place where it was found.
use Rattle.std.proofs.Common.{◌≡◌, ℕ, List, get_or, Some, None, Option, sym, ap, ◌∙◌, arith}
use Rattle.rules.specs.declared.trailer.Trailer.{Trailer}
use Rattle.rules.specs.Queue.{page_of, number, found_entry}
use Rattle.rules.specs.Ranks.{highest, found_at}
use Rattle.rules.proofs.Best.{Best, highest_best}

module _ (p : ℕ) (es : List (Option Trailer)) where
  by : (r : Option (ℕ × Option Trailer)) → Best page_of number p None 0 es r → (i : ℕ) → Some i ≡ found_at r
      → get_or es i None ≡ found_entry r
  by None b i e = let z : ◌≡◌ {A = ℕ} 0 1 = cc in absurd (omega arith)
  by (Some (k, t)) (j, at, top) i e =
      let ik : i ≡ k = cc in
      let ij : i ≡ j = omega arith in
      ap (λ n. get_or es n None) ij ∙ sym top.here

  pub entry_found : (i : ℕ) → Some i ≡ found_at (highest page_of number p es)
      → get_or es i None ≡ found_entry (highest page_of number p es)
  entry_found = by (highest page_of number p es) (highest_best page_of number p None es)
