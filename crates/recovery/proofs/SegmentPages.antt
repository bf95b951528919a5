-- All segment pages, one after another.
use Rattle.std.proofs.Common.{◌≡◌, ℕ, suc, ◌+◌, ◌-◌, ◌<◌, List, [], ◌∷◌, ◌++◌, Some, None, Ok, Err, Option, Result, sym, refl, ap, ◌∙◌, arith}
use Rattle.std.proofs.lemmas.Bool.Decides.{nat_tests}
use Rattle.medium.specs.Meaning.{Meaning}
use Rattle.rules.specs.declared.fault.Fault.{Fault}
use Rattle.rules.specs.Format.{Segment}
use Rattle.rules.specs.Recovery.{joined, read_segments, later, newest}
use Rattle.recovery.specs.Segments.{one_segment}

-- The later of three, and the newest of one more.
later_none : (g : Option Segment) → later g None ≡ g
later_none None = refl
later_none (Some g) = refl

later_later : (a b c : Option Segment) → later (later a b) c ≡ later a (later b c)
later_later None b c = refl
later_later (Some a) None c = refl
later_later (Some a) (Some b) None = later_none _
later_later (Some a) (Some b) (Some c) = grind (arith, nat_tests)

pub newest_push : (gs : List (Option Segment)) (g : Option Segment)
    → newest (gs ++ (g ∷ [])) ≡ later (newest gs) g
newest_push [] g = later_none g
newest_push (h ∷ gs) g = ap (later h) (newest_push gs g) ∙ sym (later_later h (newest gs) g)

-- What was read before, and what is left.
abbrev pub ahead : List (Option Segment) → Result (List (Option Segment)) Fault → Result (List (Option Segment)) Fault
ahead [] r = r
ahead (g ∷ gs) r = joined (Ok g) (ahead gs r)

ahead_err : (gs : List (Option Segment)) (e : Fault) → ahead gs (Err e) ≡ Err e
ahead_err [] e = refl
ahead_err (g ∷ gs) e = ap (joined (Ok g)) (ahead_err gs e)

ahead_all : (gs : List (Option Segment)) → ahead gs (Ok []) ≡ Ok gs
ahead_all [] = refl
ahead_all (g ∷ gs) = ap (joined (Ok g)) (ahead_all gs)

ahead_more : (gs : List (Option Segment)) (g : Option Segment) (r : Result (List (Option Segment)) Fault)
    → ahead (gs ++ (g ∷ [])) r ≡ ahead gs (joined (Ok g) r)
ahead_more [] g r = refl
ahead_more (h ∷ gs) g r = ap (joined (Ok h)) (ahead_more gs g r)

-- The turns: n pages, of which i are read, from a flash that means the same before and after.
module _ (m : Meaning) (p n i : ℕ) (gs : List (Option Segment)) (whole : Result (List (Option Segment)) Fault)
    (is : whole ≡ ahead gs (read_segments m p (n - i) i)) where
  at : (x : Meaning) → x ≡ m → one_segment x p i ≡ one_segment m p i
  at x same = ap (λ y. one_segment y p i) same

  left : i < n → whole ≡ ahead gs (joined (one_segment m p i) (read_segments m p (n - (i + 1)) (i + 1)))
  left lt =
      let one : n - i ≡ suc (n - (i + 1)) = omega arith in
      is ∙ ap (λ k. ahead gs (read_segments m p k i)) one

  pub read_more : (x : Meaning) → x ≡ m → (g : Option Segment) → i < n → Ok g ≡ one_segment x p i
      → whole ≡ ahead (gs ++ (g ∷ [])) (read_segments m p (n - (i + 1)) (i + 1))
  read_more x same g lt here =
      left lt
      ∙ ap (λ r. ahead gs (joined r (read_segments m p (n - (i + 1)) (i + 1)))) (sym (here ∙ at x same))
      ∙ sym (ahead_more gs g (read_segments m p (n - (i + 1)) (i + 1)))

  pub read_fails : (x : Meaning) → x ≡ m → (e : Fault) → i < n → Err e ≡ one_segment x p i → whole ≡ Err e
  read_fails x same e lt here =
      left lt
      ∙ ap (λ r. ahead gs (joined r (read_segments m p (n - (i + 1)) (i + 1)))) (sym (here ∙ at x same))
      ∙ ahead_err gs e

  pub read_all : i ≡ n → whole ≡ Ok gs
  read_all end =
      let none : n - i ≡ 0 = omega arith in
      is ∙ ap (λ k. ahead gs (read_segments m p k i)) none ∙ ahead_all gs
