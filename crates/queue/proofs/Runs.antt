-- The trailers of numbers in a row, as a list has them and as the rules do.
use Rattle.std.proofs.Common.{◌≡◌, ℕ, zero, suc, ◌+◌, ◌-◌, ◌<◌, ◌≤◌, List, [], ◌∷◌, length, get_or, None, Option, inl, inr, subst, sym, refl, ap, ◌∙◌, ap₂, arith}
use Rattle.std.specs.Array.{IsFromFnResult, IsFromFnResultFrom}
use Rattle.std.specs.Fn.{Called, Mut}
use Rattle.std.proofs.lemmas.Bool.{cases_eq}
use Rattle.rules.specs.declared.trailer.Trailer.{Trailer}
use Rattle.rules.specs.Queue.{Queue, frames, place, or_zero, run_of, segment_of}
use Rattle.queue.specs.Runs.{run_in, segment_in}

-- What a closure makes that stays as it was.
module _ {F B : Type 0} (g : Mut F (ℕ × Unit {0}) B) (h : ℕ → B) (f : F)
    (one : (i : ℕ) (y : B) (q : F) → Called g f (i, tt) y q → (y ≡ h i) × (q ≡ f)) where
  made_from : (ys : List B) (i n : ℕ) (p : F) → p ≡ f → IsFromFnResultFrom g p ys i n → (k : ℕ) (d : B) → i ≤ k → k < i + n
      → get_or ys k d ≡ h k
  made_from ys i zero p is made k d le lt = absurd (omega arith)
  made_from ys i (suc n) p is (q, y, at, call, rest) k d le lt =
      let here = one i y q (subst (λ (x : F). Called g x (i, tt) y q) is call) in
      elim (cases_eq k i) [
        | inl e ↦ ap (λ j. get_or ys j d) e ∙ at.1 d ∙ here.0 ∙ ap h (sym e)
        | inr ne ↦ made_from ys (i + 1) n q here.1 rest k d (omega arith) (omega arith)
      ]

  pub made : (ys : List B) (n : ℕ) → IsFromFnResult g f ys n → (k : ℕ) (d : B) → k < n → get_or ys k d ≡ h k
  made ys n all k d lt = made_from ys 0 n f refl all.each k d (omega arith) (omega arith)

module _ (c : ℕ) (es : List (Option Trailer)) where
  abbrev at : ℕ → Trailer
  at q = or_zero (get_or es (place c q) None)

  -- A list that has them all.
  pub run_given : (n q : ℕ) (ts : List Trailer) → length ts ≡ n
      → ((i : ℕ) (d : Trailer) → i < n → get_or ts i d ≡ at (q + i)) → ts ≡ run_in c es n q
  unfolding run_in
  run_given zero q [] long each = refl
  run_given zero q (t ∷ ts) long each = absurd (omega arith)
  run_given (suc n) q [] long each = absurd (omega arith)
  run_given (suc n) q (t ∷ ts) long each =
      let rest : (i : ℕ) (d : Trailer) → i < n → get_or ts i d ≡ at (q + 1 + i) =
      λ i d lt. each (suc i) d (omega arith) ∙ ap at (omega arith) in
      ap₂ (λ u us. u ∷ us) (each 0 t (omega arith) ∙ ap at (omega arith)) (run_given n (q + 1) ts (omega arith) rest)

pub run_is : (x : Queue) (n q : ℕ) → run_of x n q ≡ run_in (frames x.flash) x.entries n q
unfolding run_in
run_is x zero q = refl
run_is x (suc n) q = ap (λ ts. or_zero (get_or x.entries (place (frames x.flash) q) None) ∷ ts) (run_is x n (q + 1))

-- The segment that ends at the last number.
pub segment_is : (x : Queue) → segment_of x ≡ segment_in (frames x.flash) x.entries x.front x.last
segment_is x = λ i. record { last = x.last; front = x.front; entries = run_is x 15 (x.last - 14) i }
