-- What each function of a medium does to its meaning.
use Rattle.std.specs.Prelude.{ℕ, ◌-◌, Bool, true, false, cond, [], length, Some, None, Ok, Err, Option, Result, ◌==◌, nat_le}
use Rattle.medium.specs.declared.Cause.{Cause}
use Rattle.medium.specs.declared.Cause.TheVariants.{Dark, Outside, Length, Unreadable}
use Rattle.medium.specs.Meaning.{Bytes, Page, Meaning, Left, size, page, leaves, with_page}
use Rattle.medium.specs.Outcome.{Outcome, done, refused, struck}

-- The checks that read and write make first, in this order, on page i with n bytes.
abbrev pub refusal : Bool → ℕ → ℕ → ℕ → Option Cause
refusal lit pages i n =
    cond lit (cond (nat_le pages i) (Some Outside) (cond (n == 256) None (Some Length))) (Some Dark)

abbrev pub refuses : Meaning → ℕ → ℕ → Option Cause
refuses m i n = refusal m.lit (size m) i n

-- As an answer.
abbrev pub allowed : Option Cause → Result (Unit {0}) Cause
allowed None = Ok tt
allowed (Some e) = Err e

-- What read finds: the page's bytes, or why not.
abbrev pub readable : Page → Result Bytes Cause
readable None = Err Unreadable
readable (Some bs) = Ok bs

abbrev pub unless_refused : Option Cause → Page → Result Bytes Cause
unless_refused (Some e) p = Err e
unless_refused None p = readable p

abbrev pub reads : Meaning → ℕ → ℕ → Result Bytes Cause
reads m i n = unless_refused (refuses m i n) (page m i)

-- What read answers then.
abbrev pub plainly : {A E : Type 0} → Result A E → Result (Unit {0}) E
plainly (Ok a) = Ok tt
plainly (Err e) = Err e

-- What the buffer holds then, if it held `was`.
abbrev pub filled : Bytes → Result Bytes Cause → Bytes
filled was (Ok bs) = bs
filled was (Err e) = was

-- A write answered done: the page is whole, and the charge falls by one.
abbrev pub written : Meaning → ℕ → Bytes → Meaning
written m i bs = with_page m i (Some bs) (m.charge - 1) true

-- A write that was struck: the medium is dark.
abbrev pub struck_at : Meaning → ℕ → Bytes → Left → Meaning
struck_at m i bs w = with_page m i (leaves w (page m i) bs) 0 false

abbrev pub write_unless : Option Cause → Meaning → ℕ → Bytes → Outcome Cause Meaning (Unit {0})
write_unless (Some e) m i bs = refused e m []
write_unless None m i bs =
    cond (m.charge == 0) (struck Dark (struck_at m i bs) (λ w. [])) (done tt (written m i bs) [])

abbrev pub write : Meaning → ℕ → Bytes → Outcome Cause Meaning (Unit {0})
write m i bs = write_unless (refuses m i (length bs)) m i bs

-- The power is back, with a new charge; every page is as it was left.
abbrev pub relit : Meaning → ℕ → Meaning
relit m c = record { pages = m.pages; charge = c; lit = true }
