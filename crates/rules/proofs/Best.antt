-- What the search for the record of highest rank of a page gives.
use Rattle.std.proofs.Common.{◌≡◌, ℕ, zero, suc, ◌+◌, ◌<◌, ◌≤◌, Bool, true, false, cond, ltb, ◌≢◌, List, [], ◌∷◌, length, get_or, Some, None, Option, refl, ap, ◌∙◌, arith}
use Rattle.std.proofs.lemmas.Bool.{eqb-true, eq-eqb, ltb-true, ltb-false}
use Rattle.rules.specs.Ranks.{names, better, found, highest}

-- The test for a page, both ways.
pub names_some : (o : Option ℕ) (p : ℕ) → names o p ≡ true → o ≡ Some p
names_some None p e = let z : ◌≡◌ {A = ℕ} 0 1 = cc in absurd (omega arith)
names_some (Some x) p e = ap Some (eqb-true x p e)

pub some_names : (o : Option ℕ) (p : ℕ) → o ≡ Some p → names o p ≡ true
some_names o p e = ap (λ i. names i p) e ∙ eq-eqb p p refl

module _ {X : Type 0} (page : X → Option ℕ) (rank : X → ℕ) (p : ℕ) (d : X) where
  -- Record x stands at place j and is of page p, and none of page p has a higher rank.
  pub record Top (xs : List X) (j : ℕ) (x : X) : Type 0 where
    pub within : j < length xs
    pub here : x ≡ get_or xs j d
    pub named : page x ≡ Some p
    pub most : (i : ℕ) → i < length xs → page (get_or xs i d) ≡ Some p → rank (get_or xs i d) ≤ rank x

  -- What was found in xs, whose places count from o: such a record with its place, or nothing if none is of page p.
  abbrev pub Best : ℕ → List X → Option (ℕ × X) → Type 0
  Best o xs None = (i : ℕ) → i < length xs → page (get_or xs i d) ≢ Some p
  Best o xs (Some (i, x)) = (j : ℕ) × (i ≡ o + j) × Top xs j x

  -- One record more in front, of another page, and of page p.
  skip : (o : ℕ) (x : X) (xs : List X) (r : Option (ℕ × X)) → page x ≢ Some p → Best (o + 1) xs r → Best o (x ∷ xs) r
  skip o x xs None off b = elim [ zero ↦ λ lt. off | suc i ↦ λ lt. b i (omega arith) ]
  skip o x xs (Some (i, y)) off (j, at, t) = (
    suc j,
    omega arith,
    record {
      within = omega (arith, t.within);
      here = t.here;
      named = t.named;
      most = elim [ zero ↦ λ lt is. absurd (off is) | suc k ↦ λ lt is. t.most k (omega arith) is ];
    },
  )

  weigh : (o : ℕ) (x : X) (xs : List X) (r : Option (ℕ × X)) → page x ≡ Some p → Best (o + 1) xs r
      → Best o (x ∷ xs) (better page rank p o x r)
  weigh o x xs None on b = (
    0,
    omega arith,
    record {
      within = omega arith;
      here = refl;
      named = on;
      most = elim [ zero ↦ λ lt is. omega arith | suc k ↦ λ lt is. absurd (b k (omega arith) is) ];
    },
  )
  weigh o x xs (Some (i, y)) on (j, at, t) = go (ltb (rank x) (rank y)) refl
    where
      go : (c : Bool) → ltb (rank x) (rank y) ≡ c → Best o (x ∷ xs) (cond c (Some (i, y)) (Some (o, x)))
      go true e =
          let lt = ltb-true (rank x) (rank y) e in (
            suc j,
            omega arith,
            record {
              within = omega (arith, t.within);
              here = t.here;
              named = t.named;
              most = elim [ zero ↦ λ l is. omega arith | suc k ↦ λ l is. t.most k (omega arith) is ];
            },
          )
      go false e =
          let le = ltb-false (rank x) (rank y) e in (
            0,
            omega arith,
            record {
              within = omega arith;
              here = refl;
              named = on;
              most = elim [ zero ↦ λ l is. omega arith | suc k ↦ λ l is. omega (arith, t.most k (omega arith) is) ];
            },
          )

  pub found_best : (o : ℕ) (xs : List X) → Best o xs (found page rank p o xs)
  found_best o [] = λ i lt. absurd (omega arith)
  found_best o (x ∷ xs) = go (names (page x) p) refl (found page rank p (o + 1) xs) (found_best (o + 1) xs)
    where
      go : (c : Bool) → names (page x) p ≡ c → (r : Option (ℕ × X)) → Best (o + 1) xs r
          → Best o (x ∷ xs) (cond c (better page rank p o x r) r)
      go true e r b = weigh o x xs r (names_some (page x) p e) b
      go false e r b = skip o x xs r other b
        where
          other : page x ≢ Some p
          other is = let t = some_names (page x) p is in let z : ◌≡◌ {A = ℕ} 0 1 = cc in omega arith

  pub highest_best : (xs : List X) → Best 0 xs (highest page rank p xs)
  highest_best xs = found_best 0 xs
