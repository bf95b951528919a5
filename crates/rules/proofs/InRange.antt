-- In every run the versions in RAM are in range.
use Rattle.std.proofs.Common.{◌≡◌, ℕ, ◌≤◌, Result, subst}
use Rattle.rules.specs.declared.fault.Fault.{Fault}
use Rattle.rules.specs.declared.state.State.{State}
use Rattle.rules.specs.declared.state.State.TheVariants as state
use Rattle.rules.specs.Book.{Book}
use Rattle.rules.specs.Promise.{Run, Promise, next}
use Rattle.rules.specs.Ram.{card_at}
use Rattle.rules.specs.Store.{Store, Call, Answer}
use Rattle.rules.proofs.Invariant.{Running, by}
use Rattle.rules.proofs.Theorem.{run_keeps}

pub versions_in_range : (x : Store) (b : Book) → Run x b → x.state ≡ state.Up → (f : ℕ)
    → (card_at x.ram f).version ≤ 4000000000
versions_in_range x b run up f =
    let running : Running x b = subst (λ (s : State). by s x b) up (run_keeps run) in running.in_ram.versions f

-- They are after a call with which a run goes on.
pub still_in_range : (x y : Store) (c : Call) (r : Result Answer Fault) → Promise x c r y → (b : Book) → Run x b
    → y.state ≡ state.Up → (f : ℕ) → (card_at y.ram f).version ≤ 4000000000
still_in_range x y c r stands b run =
    let (ws, ends, holds) = stands b run in versions_in_range y _ (next run c r ws ends)
