-- What the uses of a store come to, call by call. A visit takes a page, does something with it, and gives it back; a
-- refusal of the give back goes before what was answered in between.
use Rattle.std.specs.Prelude.{◌≡◌, ℕ, ◌⊎◌, Ok, Err, Result}
use Rattle.std.specs.Result.{result_and}
use Rattle.medium.specs.Meaning.{Bytes}
use Rattle.medium.specs.Outcome.{Gives}
use Rattle.rules.specs.declared.fault.Fault.{Fault}
use Rattle.rules.specs.declared.table.Grant.{Grant}
use Rattle.rules.specs.Store.{Store, step, take_page, read, write, give_back, took, gave, wrote, given}
use Rattle.store.specs.View.{answered}

-- Between the two calls, with the page held, a store goes over into another and gives an answer.
abbrev pub Between : Type 1
Between = Grant → Store → Store → Result ℕ Fault → Type 0

abbrev pub RefusedTake : ℕ → Store → Store → Result ℕ Fault → Type 0
RefusedTake p x z r = (e : Fault) × Gives (step x (take_page p)) (Err e) z × (r ≡ Err e)

abbrev pub Visited : ℕ → Between → Store → Store → Result ℕ Fault → Type 0
Visited p between x z r =
    (h : Grant) × (y w : Store) × (v : Result ℕ Fault) × (g : Result (Unit {0}) Fault)
    × Gives (step x (take_page p)) (Ok (took h)) y
    × between h y w v
    × Gives (step w (give_back h.frame h.number)) (answered (λ u. given) g) z
    × (r ≡ result_and g v)

abbrev pub Visits : ℕ → Between → Store → Store → Result ℕ Fault → Type 0
Visits p between x z r = RefusedTake p x z r ⊎ Visited p between x z r

-- Bytes are put at an offset of a page; what the write answers is the answer.
abbrev pub Puts : ℕ → ℕ → Bytes → Store → Store → Result ℕ Fault → Type 0
Puts p o bs x z r =
    Visits p (λ h y w v. Gives (step y (write h.frame h.number o bs)) (answered wrote v) w × (r ≡ v)) x z r

-- A page is read into a buffer of so many bytes, which holds `body` then; what the read answers is the answer.
abbrev pub Looks : ℕ → ℕ → Bytes → Store → Store → Result ℕ Fault → Type 0
Looks p n body x z r =
    Visits p (λ h y w v. Gives (step y (read h.frame h.number n)) (answered (gave body) v) w × (r ≡ v)) x z r

-- With a page held, its body is put into another page, unless the read is refused.
abbrev pub CopiesInto : ℕ → Between
CopiesInto to h y w v =
    ((e : Fault) × Gives (step y (read h.frame h.number 240)) (Err e) w × (v ≡ Err e))
    ⊎ ((body : Bytes) × (n : ℕ) × (u : Store)
    × Gives (step y (read h.frame h.number 240)) (Ok (gave body n)) u
    × Puts to 0 body u w v)

abbrev pub Copies : ℕ → ℕ → Store → Store → Result ℕ Fault → Type 0
Copies from to = Visits from (CopiesInto to)
