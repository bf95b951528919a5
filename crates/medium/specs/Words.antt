-- How a refusal is printed.
use Rattle.std.specs.Prelude.{ℕ, List, codes}
use Rattle.medium.specs.declared.Cause.{Cause}
use Rattle.medium.specs.declared.Cause.TheVariants.{Dark, Outside, Length, Unreadable}

abbrev pub word_of : Cause → List ℕ
word_of Dark = codes "dark"
word_of Outside = codes "outside"
word_of Length = codes "length"
word_of Unreadable = codes "unreadable"
