-- A checkpoint frame by frame, by what each save gives.
use Rattle.std.proofs.Common.{◌≡◌, ℕ, suc, ◌+◌, Bool, true, false, cond, [], Some, Ok, Err, None, Option, Result, sym, refl, ap, ◌∙◌, subst, arith}
use Rattle.medium.specs.Outcome.{Outcome, Gives, done}
use Rattle.rules.specs.declared.fault.Fault.{Fault}
use Rattle.rules.specs.declared.table.Card.{Card}
use Rattle.rules.specs.Ram.{card_at, with_card, cleaned}
use Rattle.rules.specs.Steps.{then_do}
use Rattle.rules.specs.Store.{Store, Answer, enqueue_frame, save, save_all, with_ram}
use Rattle.rules.proofs.Given.{then_gives, stops_gives}
use Rattle.store.specs.Parts.{save_frame}

-- A frame's enqueue failed.
pub save_failed : (x y : Store) (f p : ℕ) (k : Card) (e : Fault) → k ≡ card_at x.ram f → k.page ≡ Some p
    → Gives (enqueue_frame x f p) (Err e) y → Gives (save_frame x f) (Err e) y
save_failed x y f p k e own is g =
    subst (λ (o : Option ℕ). Gives (save x f o) (Err e) y) (sym is ∙ ap (λ (c : Card). c.page) own)
    (stops_gives
    (λ u z. done tt (with_ram z (with_card z.ram f (cleaned (card_at z.ram f)))) [])
    (enqueue_frame x f p) e y g)

-- Whether a frame is newer.
pub is_newer : (b : Bool) (i f : ℕ) (o : Option ℕ) → o ≡ cond b (Some i) None → o ≡ Some f → (true ≡ b) × (f ≡ i)
is_newer true i f o is found = (refl, cc)
is_newer false i f o is found = let n : ◌≡◌ {A = ℕ} 0 1 = cc in absurd (omega arith)

pub is_as_saved : (b : Bool) (i : ℕ) (o : Option ℕ) → o ≡ cond b (Some i) None → o ≡ None → false ≡ b
is_as_saved true i o is none = let n : ◌≡◌ {A = ℕ} 0 1 = cc in absurd (omega arith)
is_as_saved false i o is none = refl

module _ (n m : ℕ) (x : Store) (f k : ℕ) (one : m ≡ suc n) (r : Result Answer Fault) (z : Store) where
  abbrev turn : Bool → Outcome Fault Store Answer
  turn b = cond b (then_do (save_frame x f) (λ u y. save_all n y (f + 1) (k + 1))) (save_all n x (f + 1) k)

  by_turn : (b : Bool) → b ≡ (card_at x.ram f).fdirty → Gives (turn b) r z → Gives (save_all m x f k) r z
  by_turn b is g =
      subst (λ (i : ℕ). Gives (save_all i x f k) r z) (sym one)
      (subst (λ (c : Bool). Gives (turn c) r z) is g)

  -- A frame that is not newer is passed over.
  pub turn_passes : false ≡ (card_at x.ram f).fdirty → Gives (save_all n x (f + 1) k) r z
      → Gives (save_all m x f k) r z
  turn_passes = by_turn false

  -- A frame that was saved counts.
  pub turn_saves : (g : ℕ) → g ≡ f → (y : Store) → true ≡ (card_at x.ram f).fdirty
      → Gives (save_frame x g) (Ok tt) y → Gives (save_all n y (f + 1) (k + 1)) r z → Gives (save_all m x f k) r z
  turn_saves g own y is put rest =
      by_turn true is
      (then_gives (λ u y. save_all n y (f + 1) (k + 1)) (save_frame x f) tt y
      (subst (λ (i : ℕ). Gives (save_frame x i) (Ok tt) y) own put) r z rest)

-- A save that failed ends it.
pub turn_fails : (n m : ℕ) (x y : Store) (f k : ℕ) → m ≡ suc n → true ≡ (card_at x.ram f).fdirty → (g : ℕ) → g ≡ f → (e : Fault)
    → Gives (save_frame x g) (Err e) y → Gives (save_all m x f k) (Err e) y
turn_fails n m x y f k one is g own e failed =
    by_turn n m x f k one (Err e) y true is
    (stops_gives (λ u y. save_all n y (f + 1) (k + 1)) (save_frame x f) e y
    (subst (λ (i : ℕ). Gives (save_frame x i) (Err e) y) own failed))
