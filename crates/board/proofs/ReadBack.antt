-- What is written is read back.
use Rattle.std.proofs.Common.{◌≡◌, ℕ, ◌<◌, true, false, cond, ◌&&◌, eqb, leb, List, [], ◌∷◌, ◌++◌, length, Some, None, decimal, refl, ap, ◌∙◌, ap₂, arith, rules}
use Rattle.std.proofs.lemmas.Fmt.{digits_decimal, digits_value-decimal, decimal_nonempty}
use Rattle.std.proofs.lemmas.List.Splits.{slice_split_at, slice_split_none}
use Rattle.std.proofs.lemmas.List.Sums.{AllPass-from_list_all}
use Rattle.std.specs.Char.{is_ascii_digit}
use Rattle.std.specs.List.{All, onto_first}
use Rattle.std.proofs.lemmas.Str.Parse.{IsNumeralModel, numerals_by_fold}
use Rattle.std.proofs.lemmas.Bool.{le-leb, ne_eqb}
use Rattle.std.proofs.lemmas.Bool.Decides.{nat_tests}
use Rattle.board.specs.declared.command.Command.TheVariants.{Mount, Save, Get, Checkpoint, Cycle}
use Rattle.board.specs.Lines.{lines_of, fields_of, all_digits, value, number_of, followed, all_numbers, numbers_of, command_with}
use Rattle.board.specs.Laws.{Small, Unfed, CommandsReadBack, LinesReadBack}

-- The digits of a line are the kit's.
own : IsNumeralModel (λ ds. all_digits ds ≡ true) (value 0)
own = numerals_by_fold _ (search rules) value (search rules)

-- A number is read back from its digits.
number_back : (n : ℕ) → Small n → number_of (decimal n) ≡ Some n
number_back n h =
    let wide : n < 18446744073709551616 = omega arith in
    let ds = decimal n in
    ap₂ (λ t u. cond (t && (u && leb (value 0 ds) 4294967295)) (Some (value 0 ds)) None)
    (le-leb 1 (length ds) (decimal_nonempty n wide)) (digits_decimal own n wide)
    ∙ ap (λ m. cond (leb m 4294967295) (Some m) None) (digits_value-decimal own n wide)
    ∙ ap (λ t. cond t (Some n) None) (le-leb n 4294967295 h)

-- Digits have no space.
no_space : (ds : List ℕ) → all_digits ds ≡ true → All (λ c. eqb c 32 ≡ false) ds
no_space ds e k d lt =
    let digit = AllPass-from_list_all is_ascii_digit ds e k d lt in grind (arith, nat_tests, digit)

fields_more : (ds xs : List ℕ) → all_digits ds ≡ true → fields_of (ds ++ (32 ∷ xs)) ≡ ds ∷ fields_of xs
fields_more ds xs e = slice_split_at (λ c. eqb c 32) ds 32 xs (no_space ds e) refl

fields_last : (ds : List ℕ) → all_digits ds ≡ true → fields_of ds ≡ ds ∷ []
fields_last ds e = slice_split_none (λ c. eqb c 32) ds (no_space ds e)

digits_of : (n : ℕ) → Small n → all_digits (decimal n) ≡ true
digits_of n h = digits_decimal own n (omega arith)

one : (n : ℕ) → Small n → numbers_of (32 ∷ decimal n) ≡ Some (n ∷ [])
one n h =
    ap all_numbers (fields_last (decimal n) (digits_of n h)) ∙ ap (λ o. followed o (Some [])) (number_back n h)

more : (n : ℕ) (xs : List ℕ) → Small n
    → numbers_of (32 ∷ (decimal n ++ (32 ∷ xs))) ≡ followed (Some n) (numbers_of (32 ∷ xs))
more n xs h =
    ap all_numbers (fields_more (decimal n) xs (digits_of n h))
    ∙ ap (λ o. followed o (all_numbers (fields_of xs))) (number_back n h)

two : (a b : ℕ) → Small a → Small b → numbers_of (32 ∷ (decimal a ++ (32 ∷ decimal b))) ≡ Some (a ∷ b ∷ [])
two a b h k = more a (decimal b) h ∙ ap (followed (Some a)) (one b k)

pub commands_read_back : CommandsReadBack
commands_read_back (Mount a) h = ap (command_with 109) (one a h)
commands_read_back (Save a b c) h =
    ap (command_with 115)
    (more a (decimal b ++ (32 ∷ decimal c)) h.0 ∙ ap (followed (Some a)) (two b c h.1 (omega arith)))
    ∙ ap (λ t. cond t (Some (Save a b c)) None) (le-leb c 255 h.2)
commands_read_back (Get a b) h = ap (command_with 103) (two a b h.0 h.1)
commands_read_back Checkpoint h = refl
commands_read_back (Cycle a b) h = ap (command_with 99) (two a b h.0 h.1)

line_back : (l xs : List ℕ) → Unfed l → lines_of (l ++ (10 ∷ xs)) ≡ l ∷ lines_of xs
line_back [] xs h = refl
line_back (c ∷ cs) xs h =
    ap₂ (λ t ls. cond t ([] ∷ ls) (onto_first c ls)) (ne_eqb c 10 h.0) (line_back cs xs h.1)

pub lines_read_back : LinesReadBack
lines_read_back [] h = refl
lines_read_back (l ∷ ls) h = line_back l _ h.0 ∙ ap (λ ms. l ∷ ms) (lines_read_back ls h.1)
