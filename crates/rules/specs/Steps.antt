-- Rules put together: one after another, on a part of the state, and with the frame writes that they make.
use Rattle.std.specs.Prelude.{◌≡◌, Bool, true, false, ◌&&◌, List, [], ◌∷◌, ◌++◌, Some, Ok, Err, Result, ◌==◌}
use Rattle.medium.specs.Meaning.{Bytes, Page, Left, leaves}
use Rattle.medium.specs.Outcome.{Wrote, Outcome, done, refused, struck}

abbrev pub wrote : Bytes → Page → Wrote
wrote bs l = record { bytes = bs; left = l }

module _ {E S A : Type 0} where
  -- The same, after some frame writes.
  abbrev pub after : List Wrote → Outcome E S A → Outcome E S A
  after ws (done a s vs) = done a s (ws ++ vs)
  after ws (refused e s vs) = refused e s (ws ++ vs)
  after ws (struck e f vs) = struck e f (λ w. ws ++ vs w)

  -- The same, as a write of bs over a frame that was as `was`.
  abbrev pub framed : Page → Bytes → Outcome E S A → Outcome E S A
  framed was bs (done a s vs) = done a s (wrote bs (Some bs) ∷ vs)
  framed was bs (refused e s vs) = refused e s vs
  framed was bs (struck e f vs) = struck e f (λ w. wrote bs (leaves w was bs) ∷ vs w)

  -- Answer, state and frame writes are what the rule gives.
  abbrev pub Ends : Outcome E S A → Result A E → S → List Wrote → Type 0
  Ends (done a s ws) r t vs = (r ≡ Ok a) × (t ≡ s) × (vs ≡ ws)
  Ends (refused e s ws) r t vs = (r ≡ Err e) × (t ≡ s) × (vs ≡ ws)
  Ends (struck e f ws) r t vs = (r ≡ Err e) × ((w : Left) × (t ≡ f w) × (vs ≡ ws w))

-- One rule after another, where the first is done.
abbrev pub then_do : {E S A B : Type 0} → Outcome E S A → (A → S → Outcome E S B) → Outcome E S B
then_do (done a s ws) k = after ws (k a s)
then_do (refused e s ws) k = refused e s ws
then_do (struck e f ws) k = struck e f ws

-- A rule on a part of the state, with its refusals put in other words.
abbrev pub within : {D E S T A : Type 0} → (D → E) → (S → T) → Outcome D S A → Outcome E T A
within say put (done a s ws) = done a (put s) ws
within say put (refused e s ws) = refused (say e) (put s) ws
within say put (struck e f ws) = struck (say e) (λ w. put (f w)) ws

-- The same bytes.
abbrev pub same : Bytes → Bytes → Bool
same [] [] = true
same [] (y ∷ ys) = false
same (x ∷ xs) [] = false
same (x ∷ xs) (y ∷ ys) = x == y && same xs ys
