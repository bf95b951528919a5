-- What a rule gives: an answer and the state after it, a refusal and the state after it, or a strike, of which only
-- what it leaves is open. The lists are the flash frames written on the way; a medium by itself tells none.
use Rattle.std.specs.Prelude.{◌≡◌, List, Ok, Err, Result}
use Rattle.medium.specs.Meaning.{Bytes, Page, Left}

-- One frame write: the new bytes, and what was left of the page.
pub record Wrote : Type 0 where
  pub bytes : Bytes
  pub left : Page

pub data Outcome (E S A : Type 0) : Type 0 where
  done : A → S → List Wrote → Outcome E S A
  refused : E → S → List Wrote → Outcome E S A
  struck : E → (Left → S) → (Left → List Wrote) → Outcome E S A

module _ {E S A : Type 0} where
  -- The answer r and the state t are what the rule gives.
  abbrev pub Gives : Outcome E S A → Result A E → S → Type 0
  Gives (done a s ws) r t = (r ≡ Ok a) × (t ≡ s)
  Gives (refused e s ws) r t = (r ≡ Err e) × (t ≡ s)
  Gives (struck e f ws) r t = (r ≡ Err e) × ((w : Left) × (t ≡ f w))
