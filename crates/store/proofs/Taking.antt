-- A page that is brought into RAM and held, by what the steps give.
use Rattle.std.proofs.Common.{◌≡◌, ℕ, ◌+◌, Bool, true, false, cond, eqb, Some, None, Ok, Err, Option, Result, sym, refl, ◌∙◌, subst, arith}
use Rattle.medium.specs.Outcome.{Outcome, Gives}
use Rattle.rules.specs.declared.fault.Fault.{Fault}
use Rattle.rules.specs.declared.fault.Refusal.TheVariants as refusal
use Rattle.rules.specs.Format.{most}
use Rattle.rules.specs.Ram.{card_at, last_free}
use Rattle.rules.specs.Refusals.{plain}
use Rattle.rules.specs.Steps.{then_do}
use Rattle.rules.specs.Store.{Store, Answer, empty_frame}
use Rattle.rules.specs.Store.{fetch}
use Rattle.rules.specs.Store.{bring, take_of, hold_frame, refuse}
use Rattle.rules.proofs.Given.{then_gives, stops_gives}

-- There is a next number.
pub is_next : (n k : ℕ) (r : Result ℕ Fault) → r ≡ cond (eqb n most) (Err (plain refusal.Spent)) (Ok (n + 1)) → r ≡ Ok k
    → (eqb n most ≡ false) × (k ≡ n + 1)
is_next n k r is found = go (eqb n most) (sym found ∙ is)
  where
    go : (b : Bool) → Ok k ≡ cond b (Err (plain refusal.Spent)) (Ok (n + 1)) → (b ≡ false) × (k ≡ n + 1)
    go true e = let z : ◌≡◌ {A = ℕ} 0 1 = cc in absurd (omega arith)
    go false e = (refl, cc)

-- A page brought into frame f of store x.
module _ (x : Store) (p f : ℕ) (k : Option ℕ) (free : Some f ≡ last_free x.ram x.ram.recency)
    (some : eqb x.holds most ≡ false) (left : k ≡ (card_at x.ram f).page) where
  abbrev rest : Option ℕ → Outcome Fault Store Answer
  rest o = then_do (empty_frame x f) (λ u y. then_do (fetch y f p) (λ v z. hold_frame z f o))

  by_frame : (r : Result Answer Fault) (z : Store) → Gives (rest k) r z → Gives (take_of x p None) r z
  by_frame r z g =
      subst (λ (o : Option ℕ). Gives (bring x p o) r z) free
      (subst (λ (b : Bool). Gives (cond b (refuse refusal.Spent x) (rest (card_at x.ram f).page)) r z)
      (sym some) (subst (λ (o : Option ℕ). Gives (rest o) r z) left g))

  module _ (y : Store) (out : Gives (empty_frame x f) (Ok tt) y) where
    pub brought : (z w : Store) (a : Answer) → Gives (fetch y f p) (Ok tt) z → Gives (hold_frame z f k) (Ok a) w
        → Gives (take_of x p None) (Ok a) w
    brought z w a came held =
        by_frame (Ok a) w
        (then_gives (λ u y. then_do (fetch y f p) (λ v z. hold_frame z f k)) (empty_frame x f) tt y out (Ok a) w
        (then_gives (λ v z. hold_frame z f k) (fetch y f p) tt z came (Ok a) w held))

    pub not_brought : (z : Store) (e : Fault) → Gives (fetch y f p) (Err e) z → Gives (take_of x p None) (Err e) z
    not_brought z e failed =
        by_frame (Err e) z
        (then_gives (λ u y. then_do (fetch y f p) (λ v z. hold_frame z f k)) (empty_frame x f) tt y out (Err e) z
        (stops_gives (λ v z. hold_frame z f k) (fetch y f p) e z failed))
