-- What the search finds is the best in words of order.
use Rattle.std.proofs.Common.{◌≡◌, ℕ, zero, suc, ◌+◌, ◌<◌, ◌≤◌, Bool, true, false, cond, ltb, ◌≢◌, List, [], ◌∷◌, length, Some, None, Option, IfSome, refl, subst, arith}
use Rattle.std.specs.List.{slice_get}
use Rattle.std.proofs.lemmas.Option.{slice_get_within}
use Rattle.std.proofs.lemmas.Bool.{ltb-true, ltb-false}
use Rattle.rules.specs.Ranks.{names, better, found, highest, found_at}
use Rattle.rules.proofs.Best.{names_some, some_names}
use Rattle.ranked.specs.Best.{highest_place, BestAt, Best}

module _ {R : Type 0} (pg : R → Option ℕ) (rk : R → ℕ) (p : ℕ) where
  -- The same, where the first record is at place o.
  abbrev BestFrom : ℕ → List R → Option (ℕ × R) → Type 0
  BestFrom o xs None = (j : ℕ) (y : R) → slice_get xs j ≡ Some y → pg y ≢ Some p
  BestFrom o xs (Some (i, x)) = (k : ℕ) × (i ≡ o + k) × BestAt pg rk p xs k x

  -- What holds of the first record, and of each after it.
  each : (P : ℕ → R → Type 0) (x : R) (xs : List R) → P 0 x → ((j : ℕ) (y : R) → slice_get xs j ≡ Some y → P (suc j) y)
      → (j : ℕ) (y : R) → slice_get (x ∷ xs) j ≡ Some y → P j y
  each P x xs here there zero y e = let is : x ≡ y = cc in subst (λ (z : R). P 0 z) is here
  each P x xs here there (suc j) y e = there j y e

  -- The best of the records after x is the best with x in front, if x has another page or a lower rank.
  passes : (o : ℕ) (x : R) (xs : List R) (i : ℕ) (z : R) → (pg x ≡ Some p → rk x < rk z)
      → BestFrom (o + 1) xs (Some (i, z)) → BestFrom o (x ∷ xs) (Some (i, z))
  passes o x xs i z low (k, at, b) = (
    suc k,
    omega arith,
    record {
      here = b.here;
      has = b.has;
      most =
          each (λ j y. pg y ≡ Some p → rk y ≤ rk z) x xs (λ is. let l = low is in omega arith)
          (λ j y e is. b.most j y e is);
      first = λ j y lt e.
          each (λ j y. j < suc k → pg y ≡ Some p → rk y < rk z) x xs (λ l is. low is)
          (λ j y e l is. b.first j y (omega arith) e is) j y e lt;
    },
  )

  -- A record of the page in front, at least as high as all after it.
  leads : (o : ℕ) (x : R) (xs : List R) → pg x ≡ Some p
      → ((j : ℕ) (y : R) → slice_get xs j ≡ Some y → pg y ≡ Some p → rk y ≤ rk x) → BestFrom o (x ∷ xs) (Some (o, x))
  leads o x xs on all = (
    0,
    omega arith,
    record {
      here = refl;
      has = on;
      most = each (λ j y. pg y ≡ Some p → rk y ≤ rk x) x xs (λ is. omega arith) all;
      first = λ j y lt. absurd (omega arith);
    },
  )

  skip : (o : ℕ) (x : R) (xs : List R) (r : Option (ℕ × R)) → pg x ≢ Some p → BestFrom (o + 1) xs r
      → BestFrom o (x ∷ xs) r
  skip o x xs None off b = each (λ j y. pg y ≢ Some p) x xs off b
  skip o x xs (Some (i, z)) off b = passes o x xs i z (λ is. absurd (off is)) b

  weigh : (o : ℕ) (x : R) (xs : List R) (r : Option (ℕ × R)) → pg x ≡ Some p → BestFrom (o + 1) xs r
      → BestFrom o (x ∷ xs) (better pg rk p o x r)
  weigh o x xs None on b = leads o x xs on (λ j y e is. absurd (b j y e is))
  weigh o x xs (Some (i, z)) on b = go (ltb (rk x) (rk z)) refl
    where
      go : (t : Bool) → ltb (rk x) (rk z) ≡ t → BestFrom o (x ∷ xs) (cond t (Some (i, z)) (Some (o, x)))
      go true e = passes o x xs i z (λ is. ltb-true (rk x) (rk z) e) b
      go false e =
          let le = ltb-false (rk x) (rk z) e in
          leads o x xs on (λ j y w is. let m = b.2.most j y w is in omega arith)

  found_best : (o : ℕ) (xs : List R) → BestFrom o xs (found pg rk p o xs)
  found_best o [] = λ j y e. let z : ◌≡◌ {A = ℕ} 0 1 = cc in absurd (omega arith)
  found_best o (x ∷ xs) = go (names (pg x) p) refl (found_best (o + 1) xs)
    where
      go : (n : Bool) → names (pg x) p ≡ n → BestFrom (o + 1) xs (found pg rk p (o + 1) xs)
          → BestFrom o (x ∷ xs) (cond n (better pg rk p o x (found pg rk p (o + 1) xs)) (found pg rk p (o + 1) xs))
      go true e b = weigh o x xs (found pg rk p (o + 1) xs) (names_some (pg x) p e) b
      go false e b =
          skip o x xs (found pg rk p (o + 1) xs)
          (λ is. let t = some_names (pg x) p is in let z : ◌≡◌ {A = ℕ} 0 1 = cc in omega arith) b

  pub highest_best : (xs : List R) → Best pg rk p xs (highest_place pg rk p xs)
  highest_best xs = go (highest pg rk p xs) (found_best 0 xs)
    where
      go : (r : Option (ℕ × R)) → BestFrom 0 xs r → Best pg rk p xs (found_at r)
      go None b = b
      go (Some (i, x)) (k, at, b) = let e : k ≡ i = omega arith in (x, subst (λ (n : ℕ). BestAt pg rk p xs n x) e b)

  pub best_within : (xs : List R) (r : Option ℕ) → Best pg rk p xs r → IfSome r (λ i. i < length xs)
  best_within xs None b = tt
  best_within xs (Some i) (x, b) = slice_get_within xs i x b.here
