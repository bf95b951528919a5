-- The pages that bytes mean, in any coding.
use Rattle.std.proofs.Common.{◌≡◌, ℕ, ◌<◌, map, length, get_or, set, ap, ◌∙◌, arith}
use Rattle.std.specs.List.{range_with_len}
use Rattle.std.proofs.lemmas.List.FromFn.{length-map-range_with_len, get_or-map-range_with_len}
use Rattle.medium.specs.Meaning.{Bytes, Page}
use Rattle.media.specs.Lent.{Coding, pages}
use Rattle.media.specs.Laws.Counted.{counted_set}

module _ (c : Coding) where
  pub length_pages : (bs : Bytes) → length (pages c bs) ≡ c.count bs
  unfolding pages
  length_pages bs = length-map-range_with_len (c.decode bs) 0 (c.count bs)

  pub getD_pages : (bs : Bytes) (i : ℕ) (d : Page) → i < c.count bs → get_or (pages c bs) i d ≡ c.decode bs i
  unfolding pages
  getD_pages bs i d h = get_or-map-range_with_len (c.decode bs) 0 (c.count bs) i i d h (omega arith)

  -- bytes that differ in one page mean pages that differ there
  pub pages_set : (xs ys : Bytes) (i : ℕ) (v : Page) → c.count ys ≡ c.count xs → i < c.count xs
      → c.decode ys i ≡ v → ((k : ℕ) → k < c.count xs → (k ≡ i → ⊥) → c.decode ys k ≡ c.decode xs k)
      → pages c ys ≡ set (pages c xs) i v
  unfolding pages
  pages_set xs ys i v long lt here there =
      ap (λ n. map (c.decode ys) (range_with_len 0 n)) long
      ∙ counted_set (c.decode xs) (c.decode ys) (c.count xs) i v lt here there
