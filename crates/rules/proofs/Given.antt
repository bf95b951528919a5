-- What rules that were put together give, by what their parts give.
use Rattle.std.proofs.Common.{◌≡◌, ℕ, List, Ok, Err, Result, subst, arith}
use Rattle.medium.specs.Meaning.{Bytes, Page}
use Rattle.medium.specs.Outcome.{Wrote, Outcome, done, refused, struck, Gives}
use Rattle.rules.specs.Steps.{after, framed, then_do}

module _ {E S A : Type 0} (r : Result A E) (t : S) where
  -- The frame writes on the way do not matter.
  pub after_gives : (ws : List Wrote) (o : Outcome E S A) → Gives o r t → Gives (after ws o) r t
  after_gives ws (done a s vs) g = g
  after_gives ws (refused e s vs) g = g
  after_gives ws (struck e f vs) g = g

  pub framed_gives : (was : Page) (bs : Bytes) (o : Outcome E S A) → Gives o r t → Gives (framed was bs o) r t
  framed_gives was bs (done a s vs) g = g
  framed_gives was bs (refused e s vs) g = g
  framed_gives was bs (struck e f vs) g = g

module _ {E S A B : Type 0} (k : A → S → Outcome E S B) where
  -- One rule was done, and the other gives what it gives after it.
  pub then_gives : (o : Outcome E S A) (a : A) (y : S) → Gives o (Ok a) y → (r : Result B E) (z : S)
      → Gives (k a y) r z → Gives (then_do o k) r z
  then_gives (done b s ws) a y (is, at) r z g =
      let same : a ≡ b = cc in
      after_gives r z ws (k b s)
      (subst (λ c. Gives (k c s) r z) same (subst (λ s. Gives (k a s) r z) at g))
  then_gives (refused e s ws) a y (is, at) r z g = let n : ◌≡◌ {A = ℕ} 0 1 = cc in absurd (omega arith)
  then_gives (struck e f ws) a y (is, at) r z g = let n : ◌≡◌ {A = ℕ} 0 1 = cc in absurd (omega arith)

  -- One rule was refused or struck, and nothing came after it.
  pub stops_gives : (o : Outcome E S A) (e : E) (y : S) → Gives o (Err e) y → Gives (then_do o k) (Err e) y
  stops_gives (done b s ws) e y (is, at) = let n : ◌≡◌ {A = ℕ} 0 1 = cc in absurd (omega arith)
  stops_gives (refused f s ws) e y (is, at) = (let same : f ≡ e = cc in cc, at)
  stops_gives (struck f g ws) e y (is, at) = (let same : f ≡ e = cc in cc, at)
