-- What the parts of the reading find.
use Rattle.std.specs.Prelude.{ℕ, ◌+◌, ◌-◌, ◌*◌, cond, ◌&&◌, List, [], Some, None, Option, nat_le}
use Rattle.std.specs.Char.{is_ascii_digit}
use Rattle.board.specs.Lines.{all_digits, value, fields_of}

-- The number that digits write behind a number, if they are digits and it is not too large.
abbrev pub digits_number : ℕ → List ℕ → Option ℕ
digits_number n cs = cond (all_digits cs && nat_le (value n cs) 4294967295) (Some (value n cs)) None

-- The same of one digit.
abbrev pub one_more : ℕ → ℕ → Option ℕ
one_more n c = cond (is_ascii_digit c && nat_le (10 * n + (c - 48)) 4294967295) (Some (10 * n + (c - 48))) None

-- The fields of what is left, if anything is.
abbrev pub fields_left : Option (List ℕ) → List (List ℕ)
fields_left None = []
fields_left (Some xs) = fields_of xs
