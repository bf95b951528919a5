-- The search as a chain of iterators: of the records that have the page, the first that none after it outranks.
use Rattle.std.proofs.Common.{◌≡◌, ℕ, ◌+◌, Bool, true, false, cond, ltb, List, [], ◌∷◌, map, Some, None, Option, IfSome, MatchOption, length, sym, refl, ap, ◌∙◌, subst, arith}
use Rattle.std.specs.List.{slice_get, filter, fold, reduce}
use Rattle.std.specs.Option.{option_map}
use Rattle.std.specs.Iterator.{ActsAsOnTwo}
use Rattle.std.specs.Iterator.Runs.{Run, YieldsRun, IsReduceRun}
use denote.Param.Members.{Mut}
use Rattle.std.proofs.lemmas.Bool.Decides.{nat_tests}
use native.Mathlib.Numerals.{unary_clauses}
use Rattle.rules.specs.Ranks.{names, better, found, found_at}

-- What holds of each item of a run.
module _ {S A : Type 0} {steps : S → Option A → S → Type 0} (run : Run steps) (P : ℕ → A → Type 0) where
  each_item : ((k : ℕ) → IfSome (run.at k) (P k)) → (k : ℕ) (x : A) → slice_get run.items k ≡ Some x → P k x
  unfolding YieldsRun
  each_item h k x e = subst (λ (o : Option A). IfSome o (P k)) (run.gave.1 k ∙ e) (h k)

-- What `reduce` makes of the items of a run, by what its closure computes.
module _ {S A : Type 0} {steps : S → Option A → S → Type 0} (run : Run steps) {F : Type 0}
    (g : Mut F (A × (A × Unit {0})) A) (f : F) (h : A → A → A) (acts : ActsAsOnTwo g f h) where
  reduced : (r : Option A) → MatchOption r (run.len ≡ 0) (IsReduceRun run g f) → r ≡ reduce h run.items
  reduced None none = go run.items run.long
    where
      go : (xs : List A) → run.len ≡ length xs → None ≡ reduce h xs
      go [] e = refl
      go (x ∷ xs) e = absurd (omega arith)
  reduced (Some y) (some, found) = ap Some (found.3 h acts) ∙ sym (ap (reduce h) found.2)

-- Records seen in items, each with its place.
module _ {R E : Type 0} (see : E → R) (pg : R → Option ℕ) (rk : R → ℕ) (p : ℕ) where
  abbrev pub has : (ℕ × E) → Bool
  has x = names (pg (see x.1)) p

  abbrev pub later : (ℕ × E) → (ℕ × E) → ℕ × E
  later best next = cond (ltb (rk (see best.1)) (rk (see next.1))) next best

  abbrev Placed : ℕ → List (ℕ × E) → Type 0
  Placed o xs = (k : ℕ) (x : ℕ × E) → slice_get xs k ≡ Some x → x.0 ≡ o + k

  abbrev pub seen : List (ℕ × E) → List R
  seen xs = map see (map (λ x. x.1) xs)

  -- The best so far, or what was found after it.
  abbrev over : (ℕ × E) → Option (ℕ × R) → ℕ
  over best None = best.0
  over best (Some (j, y)) = cond (ltb (rk (see best.1)) (rk y)) j best.0

  tail_placed : (o : ℕ) (x : ℕ × E) (xs : List (ℕ × E)) → Placed o (x ∷ xs) → Placed (o + 1) xs
  tail_placed o x xs h k y e = let at = h (k + 1) y (simp unary_clauses e) in omega arith

  joined : (best x : ℕ × E) (r : Option (ℕ × R)) → over (later best x) r ≡ over best (better pg rk p x.0 (see x.1) r)
  joined best x None = go (ltb (rk (see best.1)) (rk (see x.1)))
    where
      go : (t : Bool) → (cond t x best).0 ≡ cond t x.0 best.0
      go true = refl
      go false = refl
  joined best x (Some (j, y)) =
      go (ltb (rk (see x.1)) (rk y)) (ltb (rk (see best.1)) (rk (see x.1))) (ltb (rk (see best.1)) (rk y)) refl refl refl
    where
      go : (t u v : Bool) → ltb (rk (see x.1)) (rk y) ≡ t → ltb (rk (see best.1)) (rk (see x.1)) ≡ u
          → ltb (rk (see best.1)) (rk y) ≡ v
          → over (cond u x best) (Some (j, y)) ≡ over best (cond t (Some (j, y)) (Some (x.0, see x.1)))
      go true true v e f g = let h : v ≡ true = grind (arith, nat_tests) in rw (e, g, h)
      go true false v e f g = refl
      go false true v e f g = rw (e, f)
      go false false v e f g = let h : v ≡ false = grind (arith, nat_tests) in rw (f, g, h)

  after : (o : ℕ) (best : ℕ × E) (xs : List (ℕ × E)) → Placed o xs
      → (fold later best (filter has xs)).0 ≡ over best (found pg rk p o (seen xs))
  after o best [] h = refl
  after o best (x ∷ xs) h =
      let t = tail_placed o x xs h in
      go (h 0 x refl) (names (pg (see x.1)) p) (found pg rk p (o + 1) (seen xs)) (after (o + 1) (later best x) xs t)
      (after (o + 1) best xs t)
    where
      go : x.0 ≡ o + 0 → (n : Bool) (r : Option (ℕ × R)) → (fold later (later best x) (filter has xs)).0 ≡ over (later best x) r
          → (fold later best (filter has xs)).0 ≡ over best r
          → (fold later best (cond n (x ∷ filter has xs) (filter has xs))).0
          ≡ over best (cond n (better pg rk p o (see x.1) r) r)
      go at true r won lost = let e : x.0 ≡ o = omega arith in won ∙ joined best x r ∙ ap (λ i. over best (better pg rk p i (see x.1) r)) e
      go at false r won lost = lost

  -- What is found among the items stands where the search finds it among the records.
  first_found : (o : ℕ) (xs : List (ℕ × E)) → Placed o xs
      → option_map (λ x. x.0) (reduce later (filter has xs)) ≡ found_at (found pg rk p o (seen xs))
  first_found o [] h = refl
  first_found o (x ∷ xs) h =
      let t = tail_placed o x xs h in
      go (h 0 x refl) (names (pg (see x.1)) p) (found pg rk p (o + 1) (seen xs)) (after (o + 1) x xs t)
      (first_found (o + 1) xs t)
    where
      put : (r : Option (ℕ × R)) → Some (over x r) ≡ found_at (better pg rk p x.0 (see x.1) r)
      put None = refl
      put (Some (j, y)) = by (ltb (rk (see x.1)) (rk y))
        where
          by : (t : Bool) → Some (cond t j x.0) ≡ found_at (cond t (Some (j, y)) (Some (x.0, see x.1)))
          by true = refl
          by false = refl

      go : x.0 ≡ o + 0 → (n : Bool) (r : Option (ℕ × R)) → (fold later x (filter has xs)).0 ≡ over x r
          → option_map (λ z. z.0) (reduce later (filter has xs)) ≡ found_at r
          → option_map (λ z. z.0) (reduce later (cond n (x ∷ filter has xs) (filter has xs)))
          ≡ found_at (cond n (better pg rk p o (see x.1) r) r)
      go at true r won lost = let e : x.0 ≡ o = omega arith in ap Some won ∙ put r ∙ ap (λ i. found_at (better pg rk p i (see x.1) r)) e
      go at false r won lost = lost

  -- The same of what `reduce` makes of a run that has the items that pass of another, which are numbered.
  module _ {S T F : Type 0} {steps : S → Option (ℕ × E) → S → Type 0} {source : T → Option (ℕ × E) → T → Type 0}
      (kept : Run steps) (all : Run source) (g : Mut F ((ℕ × E) × ((ℕ × E) × Unit {0})) (ℕ × E)) (f : F) where
    pub chain_found : ((k : ℕ) → IfSome (all.at k) (λ x. x.0 ≡ k)) → kept.items ≡ filter has all.items
        → ActsAsOnTwo g f later → (r : Option (ℕ × E)) → MatchOption r (kept.len ≡ 0) (IsReduceRun kept g f)
        → option_map (λ x. x.0) r ≡ found_at (found pg rk p 0 (seen all.items))
    chain_found numbered passed acts r is =
        ap (option_map (λ x. x.0)) (reduced kept g f later acts r is ∙ ap (reduce later) passed)
        ∙ first_found 0 all.items (λ k x e. let at = each_item all (λ n y. y.0 ≡ n) numbered k x e in omega arith)
