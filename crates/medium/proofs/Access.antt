-- What the checks of read and write tell.
use Rattle.std.proofs.Common.{◌≡◌, ℕ, ◌<◌, Bool, true, None, arith}
use Rattle.std.proofs.lemmas.Bool.Decides.{nat_tests}
use Rattle.medium.specs.Rules.{refusal}

pub record Passed (lit : Bool) (pages i n : ℕ) : Type 0 where
  pub on : lit ≡ true
  pub inside : i < pages
  pub whole : n ≡ 256

pub passed : (lit : Bool) (pages i n : ℕ) → refusal lit pages i n ≡ None → Passed lit pages i n
passed lit pages i n h = record {
  on = grind (arith, nat_tests);
  inside = grind (arith, nat_tests);
  whole = grind (arith, nat_tests);
}
