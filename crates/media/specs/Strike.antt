-- Which strike a number stands for.
use Rattle.std.specs.Prelude.{ℕ, cond, ◌==◌}
use Rattle.media.specs.declared.strike.Strike.{Strike}
use Rattle.media.specs.declared.strike.Strike.TheVariants.{Old, New, Torn}

-- 0 the old page, 1 the new one, 2 or more a torn one.
abbrev pub kind : ℕ → Strike
kind n = cond (n == 0) Old (cond (n == 1) New Torn)
