-- The number that digits write, from the left.
use Rattle.std.proofs.Common.{◌≡◌, ℕ, ◌+◌, ◌-◌, ◌*◌, ◌<◌, ◌≤◌, Bool, true, false, cond, ◌&&◌, leb, List, [], ◌∷◌, length, get_or, drop, Some, None, Option, refl, ap, ◌∙◌, arith}
use Rattle.std.proofs.lemmas.List.{drop_more, drop_all}
use Rattle.std.proofs.lemmas.Bool.{le-leb, leb-false, lt-leb, and_right}
use Rattle.std.specs.Char.{is_ascii_digit}
use Rattle.board.specs.Lines.{all_digits, value}
use Rattle.board.specs.Parts.{digits_number, one_more}

-- A number only grows.
value_grows : (n : ℕ) (cs : List ℕ) → n ≤ value n cs
value_grows n [] = omega arith
value_grows n (c ∷ cs) = omega (arith, value_grows (10 * n + (c - 48)) cs)

-- The first digit, and those behind it.
abbrev pub and_on : Option ℕ → List ℕ → Option ℕ
and_on None cs = None
and_on (Some n) cs = digits_number n cs

digits_first : (n c : ℕ) (cs : List ℕ) → digits_number n (c ∷ cs) ≡ and_on (one_more n c) cs
digits_first n c cs = go (is_ascii_digit c) (leb m 4294967295) refl
  where
    m : ℕ
    m = 10 * n + (c - 48)

    go : (t u : Bool) → leb m 4294967295 ≡ u
        → cond ((t && all_digits cs) && leb (value m cs) 4294967295) (Some (value m cs)) None
        ≡ and_on (cond (t && u) (Some m) None) cs
    go false u e = refl
    go true true e = refl
    go true false e =
        let above : leb (value m cs) 4294967295 ≡ false =
        lt-leb (value m cs) 4294967295 (omega (arith, value_grows m cs, leb-false m 4294967295 e)) in
        ap (λ t. cond t (Some (value m cs)) None) (and_right (all_digits cs) (leb (value m cs) 4294967295) above)

pub digits_more : (n : ℕ) (xs : List ℕ) (i : ℕ) → i < length xs
    → digits_number n (drop i xs) ≡ and_on (one_more n (get_or xs i 0)) (drop (i + 1) xs)
digits_more n xs i lt = ap (digits_number n) (drop_more xs i 0 lt) ∙ digits_first n (get_or xs i 0) (drop (i + 1) xs)

pub digits_all : (n : ℕ) (xs : List ℕ) (i : ℕ) → n ≤ 4294967295 → length xs ≤ i → digits_number n (drop i xs) ≡ Some n
digits_all n xs i small past =
    ap (digits_number n) (drop_all i xs past) ∙ ap (λ t. cond t (Some n) None) (le-leb n 4294967295 small)
