-- The list of frames, and a frame of it that goes to the head.
use Rattle.std.proofs.Common.{◌≡◌, ℕ, zero, suc, ◌+◌, ◌-◌, ◌<◌, ◌≤◌, Bool, true, false, cond, eqb, List, [], ◌∷◌, ◌++◌, length, get_or, take, drop, position, Some, None, sym, refl, ap, ◌∙◌, add-one, arith}
use Rattle.std.specs.List.{position_from}
use Rattle.std.proofs.lemmas.Bool.{eqb-true, eqb-false}
use Rattle.std.proofs.lemmas.Bool.Decides.{nat_tests}
use Rattle.std.proofs.lemmas.Iterator.Adapters.{position_from-zero}
use Rattle.std.proofs.lemmas.List.{drop_at, take_at, take_more, length-take-le}
use Rattle.std.proofs.lemmas.List.Quantifiers.{position-Some}
use Rattle.rules.specs.Ram.{all_frames, numbers, without}
use Rattle.store.specs.Order.{named, Once}

-- A frame of a list that names it once.
unnamed : (f : ℕ) (xs : List ℕ) → named f xs ≡ 0 → without f xs ≡ xs
unnamed f [] e = refl
unnamed f (x ∷ xs) e = go (eqb x f) e (unnamed f xs)
  where
    go : (b : Bool) → cond b 1 0 + named f xs ≡ 0 → (named f xs ≡ 0 → without f xs ≡ xs)
        → cond b (without f xs) (x ∷ without f xs) ≡ x ∷ xs
    go true n more = absurd (omega arith)
    go false n more = ap (λ ys. x ∷ ys) (more (omega arith))

named_without : (f : ℕ) (xs : List ℕ) → named f (without f xs) ≡ 0
named_without f [] = refl
named_without f (x ∷ xs) = go (eqb x f) refl (named_without f xs)
  where
    go : (b : Bool) → eqb x f ≡ b → named f (without f xs) ≡ 0
        → named f (cond b (without f xs) (x ∷ without f xs)) ≡ 0
    go true is more = more
    go false is more = ap (λ t. cond t 1 0 + named f (without f xs)) is ∙ omega arith

named_others : (f g : ℕ) (xs : List ℕ) → (f ≡ g → ⊥) → named g (without f xs) ≡ named g xs
named_others f g [] ne = refl
named_others f g (x ∷ xs) ne = go (eqb x f) refl (named_others f g xs ne)
  where
    go : (b : Bool) → eqb x f ≡ b → named g (without f xs) ≡ named g xs
        → named g (cond b (without f xs) (x ∷ without f xs)) ≡ cond (eqb x g) 1 0 + named g xs
    go true is more = let off : eqb x g ≡ false = grind (arith, nat_tests) in rw off (omega arith)
    go false is more = ap (λ n. cond (eqb x g) 1 0 + n) more

pub once_moved : (f : ℕ) (xs : List ℕ) → Once xs → Once (f ∷ without f xs)
once_moved f xs once g lt = go (eqb f g) refl
  where
    go : (b : Bool) → eqb f g ≡ b → cond b 1 0 + named g (without f xs) ≡ 1
    go true is =
        let same = eqb-true f g is in
        let none : named g (without f xs) ≡ 0 = ap (λ h. named h (without f xs)) (sym same) ∙ named_without f xs in
        omega arith
    go false is = let n = named_others f g xs (eqb-false f g is) ∙ once g lt in omega arith

-- Nowhere found, it is not named.
unfound : (f i : ℕ) (xs : List ℕ) → position_from (λ x. eqb x f) i xs ≡ None → named f xs ≡ 0
unfound f i [] e = refl
unfound f i (x ∷ xs) e = go (eqb x f) e (unfound f (i + 1) xs)
  where
    go : (b : Bool) → cond b (Some i) (position_from (λ x. eqb x f) (i + 1) xs) ≡ None
        → (position_from (λ x. eqb x f) (i + 1) xs ≡ None → named f xs ≡ 0) → cond b 1 0 + named f xs ≡ 0
    go true e more = let n : ◌≡◌ {A = ℕ} 0 1 = cc in absurd (omega arith)
    go false e more = omega (arith, more e)

is_named : (f k : ℕ) (xs : List ℕ) → k < length xs → get_or xs k 0 ≡ f → 0 < named f xs
is_named f k [] lt is = absurd (omega arith)
is_named f zero (x ∷ xs) lt is = go (eqb x f) (grind (arith, nat_tests))
  where
    go : (b : Bool) → b ≡ true → 0 < cond b 1 0 + named f xs
    go true e = omega arith
    go false e = let n : ◌≡◌ {A = ℕ} 0 1 = cc in absurd (omega arith)
is_named f (suc k) (x ∷ xs) lt is = omega (arith, is_named f k xs (omega arith) is)

-- The one at k is left out.
others_stay : (f k : ℕ) (xs : List ℕ) → k < length xs → get_or xs k 0 ≡ f → named f xs ≡ 1
    → take k xs ++ drop (suc k) xs ≡ without f xs
others_stay f k [] lt is once = absurd (omega arith)
others_stay f zero (x ∷ xs) lt is once = go (eqb x f) (grind (arith, nat_tests)) once
  where
    go : (b : Bool) → b ≡ true → cond b 1 0 + named f xs ≡ 1 → xs ≡ cond b (without f xs) (x ∷ without f xs)
    go true e n = sym (unnamed f xs (omega arith))
    go false e n = let n : ◌≡◌ {A = ℕ} 0 1 = cc in absurd (omega arith)
others_stay f (suc k) (x ∷ xs) lt is once =
    go (eqb x f) once (is_named f k xs (omega arith) is) (others_stay f k xs (omega arith) is)
  where
    go : (b : Bool) → cond b 1 0 + named f xs ≡ 1 → 0 < named f xs
        → (named f xs ≡ 1 → take k xs ++ drop (suc k) xs ≡ without f xs)
        → x ∷ (take k xs ++ drop (suc k) xs) ≡ cond b (without f xs) (x ∷ without f xs)
    go true n some more = absurd (omega arith)
    go false n some more = ap (λ ys. x ∷ ys) (more (omega arith))

module _ (f : ℕ) (xs : List ℕ) (once : Once xs) (lt : f < 16) where
  pub is_found : position (λ x. eqb x f) xs ≡ None → ⊥
  is_found none = omega (arith, once f lt, unfound f 0 xs (sym (position_from-zero (λ x. eqb x f) xs) ∙ none))

  pub raised : (k : ℕ) (ys : List ℕ) → position (λ x. eqb x f) xs ≡ Some k
      → ys ≡ drop (length (take (k + 1) xs) - 1) (take (k + 1) xs) ++ take (length (take (k + 1) xs) - 1) (take (k + 1) xs)
      → ys ++ drop (k + 1) xs ≡ f ∷ without f xs
  raised k ys found is =
      let (within, here, before) = position-Some (λ x. eqb x f) xs k 0 found in
      let same = eqb-true (get_or xs k 0) f here in
      let long : length (take (k + 1) xs) - 1 ≡ k = omega (arith, length-take-le (k + 1) xs (omega arith)) in
      let short : length (take k xs) ≡ k = length-take-le k xs (omega arith) in
      let ends : take (k + 1) xs ≡ take k xs ++ f ∷ [] =
      take_more xs k 0 within ∙ ap (λ x. take k xs ++ x ∷ []) same in
      let turned : ys ≡ f ∷ take k xs =
      is
      ∙ ap (λ n. drop n (take (k + 1) xs) ++ take n (take (k + 1) xs)) long
      ∙ ap (λ zs. drop k zs ++ take k zs) ends
      ∙ ap (λ zs. zs ++ take k (take k xs ++ f ∷ [])) (drop_at (take k xs) (f ∷ []) k short)
      ∙ ap (λ zs. f ∷ zs) (take_at (take k xs) (f ∷ []) k short) in
      ap (λ zs. zs ++ drop (k + 1) xs) turned
      ∙ ap (λ n. f ∷ (take k xs ++ drop n xs)) (add-one k)
      ∙ ap (λ zs. f ∷ zs) (others_stay f k xs within same (once f lt))

-- All frames, each once.
unnamed_below : (n i f : ℕ) → f < i → named f (numbers n i) ≡ 0
unnamed_below zero i f lt = refl
unnamed_below (suc n) i f lt =
    let off : eqb i f ≡ false = grind (arith, nat_tests) in
    ap (λ b. cond b 1 0 + named f (numbers n (i + 1))) off ∙ omega (arith, unnamed_below n (i + 1) f (omega arith))

named_numbers : (n i f : ℕ) → i ≤ f → f < i + n → named f (numbers n i) ≡ 1
named_numbers zero i f le lt = absurd (omega arith)
named_numbers (suc n) i f le lt = go (eqb i f) refl (λ le. named_numbers n (i + 1) f le (omega arith))
  where
    go : (b : Bool) → eqb i f ≡ b → (i + 1 ≤ f → named f (numbers n (i + 1)) ≡ 1)
        → cond b 1 0 + named f (numbers n (i + 1)) ≡ 1
    go true is more = let same = eqb-true i f is in omega (arith, unnamed_below n (i + 1) f (omega arith))
    go false is more = let other = eqb-false i f is in omega (arith, more (omega arith))

pub all_once : (xs : List ℕ) → xs ≡ all_frames → Once xs
unfolding all_frames
all_once xs is f lt = ap (named f) is ∙ named_numbers 16 0 f (omega arith) (omega arith)
