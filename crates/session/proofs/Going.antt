-- A run goes on over a visit.
use Rattle.std.proofs.Common.{ℕ, Ok, Err, Result, inl, inr}
use Rattle.medium.specs.Meaning.{Bytes}
use Rattle.medium.specs.Outcome.{Gives}
use Rattle.rules.specs.declared.fault.Fault.{Fault}
use Rattle.rules.specs.declared.table.Grant.{Grant}
use Rattle.rules.specs.Book.{Book}
use Rattle.rules.specs.Promise.{Run}
use Rattle.rules.specs.Store.{Store, Call, Answer, step, take_page, read, write, give_back, took, gave, wrote, given}
use Rattle.rules.proofs.Promised.{each_call}
use Rattle.store.specs.View.{answered}
use Rattle.store_use.specs.Visits.{Between, Visits, Puts, Looks}

-- Whatever run lies behind store x, it goes on to store y.
abbrev pub On : Store → Store → Type 0
On x y = (b : Book) → Run x b → (d : Book) × Run y d

call_on : (x y : Store) (c : Call) (r : Result Answer Fault) → Gives (step x c) r y → On x y
call_on x y c r gives b run = let (ws, ends, holds) = each_call x c r y gives b run in (_, holds.behind)

visit_on : (p : ℕ) (between : Between) (x z : Store) (r : Result ℕ Fault)
    → ((h : Grant) (y w : Store) (v : Result ℕ Fault) → between h y w v → On y w)
    → Visits p between x z r → On x z
visit_on p between x z r on (inl (e, gives, is)) = call_on x z (take_page p) (Err e) gives
visit_on p between x z r on (inr (h, y, w, v, g, taken, did, back, is)) = λ b run.
    let (c, at_y) = call_on x y (take_page p) (Ok (took h)) taken b run in
    let (d, at_w) = on h y w v did c at_y in
    call_on w z (give_back h.frame h.number) (answered (λ u. given) g) back d at_w

pub put_on : (p o : ℕ) (bs : Bytes) (x z : Store) (r : Result ℕ Fault) → Puts p o bs x z r → On x z
put_on p o bs x z r =
    visit_on p _ x z r (λ h y w v did. call_on y w (write h.frame h.number o bs) (answered wrote v) did.0)

pub look_on : (p n : ℕ) (body : Bytes) (x z : Store) (r : Result ℕ Fault) → Looks p n body x z r → On x z
look_on p n body x z r =
    visit_on p _ x z r (λ h y w v did. call_on y w (read h.frame h.number n) (answered (gave body) v) did.0)
