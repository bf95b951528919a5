-- Reading left to right: numbers, fields and lines.
use Rattle.std.proofs.Common.{not, position, unwrap_or, ◌≡◌, ℕ, suc, ◌+◌, ◌-◌, ◌<◌, Bool, true, false, cond, eqb, List, [], ◌∷◌, ◌++◌, length, take, drop, Some, None, Option, sym, refl, ap, ◌∙◌, ap₂, arith}
use Rattle.std.proofs.Math.Numerals.{one-add, add-one}
use Rattle.std.proofs.lemmas.List.{drop-drop, length-drop}
use Rattle.std.proofs.lemmas.List.Quantifiers.{position-Some}
use Rattle.std.proofs.lemmas.List.Splits.{slice_split_first, slice_split_none, length-slice_split}
use Rattle.std.proofs.lemmas.List.Sums.{prefix_len-le-length, fails_before_first}
use Rattle.std.proofs.lemmas.Bool.Decides.{nat_tests}
use Rattle.std.specs.List.{between, onto_first, position_or_len, before_first, after_first}
use Rattle.board.specs.Lines.{lines_of, fields_of, number_of, followed, all_numbers, command_with}

-- The first place where a test passes, or the end.
pub place : (p : ℕ → Bool) (xs : List ℕ) → unwrap_or (position p xs) (length xs) ≡ position_or_len p xs
place p xs = let h = prefix_len-le-length (λ x. not (p x)) xs in grind (arith, nat_tests)

-- The first line, and those behind it.
abbrev pub feeds : ℕ → Bool
feeds c = eqb c 10

pub first_line : (xs : List ℕ) → 0 < length xs → lines_of xs ≡ before_first feeds xs ∷ lines_of (after_first feeds xs)
first_line [] h = absurd (omega arith)
first_line (c ∷ []) h = go (feeds c)
  where
    go : (t : Bool)
        → cond t ([] ∷ []) ((c ∷ []) ∷ [])
        ≡ take (cond (not t) 1 0) (c ∷ []) ∷ lines_of (drop (cond (not t) 1 0 + 1) (c ∷ []))
    go true = refl
    go false = refl
first_line (c ∷ (d ∷ ds)) h = go (feeds c) (first_line (d ∷ ds) (omega arith))
  where
    n : ℕ
    n = position_or_len feeds (d ∷ ds)

    go : (t : Bool) → lines_of (d ∷ ds) ≡ before_first feeds (d ∷ ds) ∷ lines_of (after_first feeds (d ∷ ds))
        → cond t ([] ∷ lines_of (d ∷ ds)) (onto_first c (lines_of (d ∷ ds)))
        ≡ take (cond (not t) (1 + n) 0) (c ∷ (d ∷ ds))
        ∷ lines_of (drop (cond (not t) (1 + n) 0 + 1) (c ∷ (d ∷ ds)))
    go true e = refl
    go false e = rw (one-add n, add-one (suc n)) (ap (onto_first c) (rw (add-one n) at e))

pub line_at : (xs : List ℕ) (from n : ℕ) → from < length xs → n ≡ position_or_len feeds (drop from xs)
    → lines_of (drop from xs) ≡ between from (from + n) xs ∷ lines_of (drop (from + n + 1) xs)
line_at xs from n lt e =
    let a : position_or_len feeds (drop from xs) ≡ from + n - from = omega arith in
    let b : from + (position_or_len feeds (drop from xs) + 1) ≡ from + n + 1 = omega arith in
    first_line (drop from xs) (simp length-drop (omega arith))
    ∙ ap₂ (λ ys zs. ys ∷ lines_of zs) (ap (λ m. take m (drop from xs)) a)
    (drop-drop (position_or_len feeds (drop from xs) + 1) from xs ∙ ap (λ m. drop m xs) b)

-- Numbers, and those behind them, if all are numbers.
abbrev pub before_all : List ℕ → Option (List ℕ) → Option (List ℕ)
before_all ns None = None
before_all ns (Some more) = Some (ns ++ more)

-- Where a space stands, what is before it and behind it; or no space.
abbrev pub spaces : ℕ → Bool
spaces c = eqb c 32

pub field_cut : (xs : List ℕ) (i : ℕ) → position spaces xs ≡ Some i
    → fields_of xs ≡ take i xs ∷ fields_of (drop (i + 1) xs)
field_cut xs i e =
    let at : position_or_len spaces xs ≡ i = sym (place spaces xs) ∙ ap (λ o. unwrap_or o (length xs)) e in
    let within = (position-Some spaces xs i 0 e).0 in
    slice_split_first spaces xs 0 (omega (arith, at, within))
    ∙ ap (λ n. take n xs ∷ fields_of (drop (n + 1) xs)) at

pub field_last : (xs : List ℕ) → position spaces xs ≡ None → fields_of xs ≡ xs ∷ []
field_last xs e =
    let at : length xs ≡ position_or_len spaces xs = sym (ap (λ o. unwrap_or o (length xs)) e) ∙ place spaces xs in
    slice_split_none spaces xs (λ k d lt. fails_before_first spaces xs k d (omega (arith, at, lt)))

-- No command has more than three numbers.
pub four_none : (letter n : ℕ) (ns : List ℕ) (o : Option (List ℕ)) → length ns ≡ 3
    → command_with letter (before_all ns (followed (Some n) o)) ≡ None
four_none letter n ns None h = refl
four_none letter n (a ∷ b ∷ c ∷ []) (Some more) h = refl
four_none letter n (a ∷ b ∷ c ∷ d ∷ ds) (Some more) h = absurd (omega arith)
four_none letter n [] (Some more) h = absurd (omega arith)
four_none letter n (a ∷ []) (Some more) h = absurd (omega arith)
four_none letter n (a ∷ b ∷ []) (Some more) h = absurd (omega arith)

pub full_none : (letter : ℕ) (ns xs : List ℕ) → length ns ≡ 3
    → command_with letter (before_all ns (all_numbers (fields_of xs))) ≡ None
full_none letter ns xs h = go (fields_of xs) (omega (arith, length-slice_split spaces xs))
  where
    with_first : (o : Option ℕ) (more : Option (List ℕ)) → command_with letter (before_all ns (followed o more)) ≡ None
    with_first None more = refl
    with_first (Some n) more = four_none letter n ns more h

    go : (fs : List (List ℕ)) → 0 < length fs → command_with letter (before_all ns (all_numbers fs)) ≡ None
    go [] l = absurd (omega arith)
    go (f ∷ fs) l = with_first (number_of f) (all_numbers fs)
