-- The directory, filled with one number after another.
use Rattle.std.proofs.Common.{◌≡◌, ◌≢◌, ℕ, zero, suc, ◌+◌, ◌-◌, ◌*◌, ◌<◌, ◌≤◌, List, set, Some, None, Ok, Err, Option, Result, sym, refl, ap, ◌∙◌, ap₂, arith}
use Rattle.std.specs.Option.{ok_or}
use Rattle.std.proofs.lemmas.List.{set_comm}
use Rattle.medium.specs.Meaning.{Meaning}
use Rattle.rules.specs.declared.fault.Fault.{Fault}
use Rattle.rules.specs.declared.trailer.Trailer.{Trailer}
use Rattle.rules.specs.Format.{Segment}
use Rattle.rules.specs.Queue.{groups, frames, place}
use Rattle.rules.specs.Recovery.{Entries, placed, described_by, gather, no_entries, foreign_at}
use Rattle.rules.proofs.Past.{place_apart}
use Rattle.recovery.specs.Directory.{described_in, placed_in, gathered}

module _ (s : ℕ) (gs : List (Option Segment)) (b : ℕ) (ts : List Trailer) where
  -- The n numbers from q on, put over these entries.
  abbrev pub filled : Entries → ℕ → ℕ → Result Entries Fault
  filled es zero q = Ok es
  filled es (suc n) q = placed_in (15 * s) (described_in s gs b ts q) q (filled es n (q + 1))

  filled_is : (n q : ℕ) → filled no_entries n q ≡ gathered s gs b ts n q
  filled_is zero q = refl
  filled_is (suc n) q = ap (placed_in (15 * s) (described_in s gs b ts q) q) (filled_is n (q + 1))

  -- A loop from the front to the last number, at number q.
  pub so_far : (r f last front q : ℕ) (es : Entries) → last ≡ r → front ≡ f
      → filled no_entries (last + 1 - front) front ≡ filled es (last + 1 - q) q
      → gathered s gs b ts (r + 1 - f) f ≡ filled es (last + 1 - q) q
  so_far r f last front q es at from is =
      ap₂ (λ n k. gathered s gs b ts (n + 1 - k) k) (sym at) (sym from)
      ∙ sym (filled_is (last + 1 - front) front)
      ∙ is

  -- Two numbers in frames of their own: either may be put in first.
  swapped : (q r : ℕ) (t : Trailer) (o : Option Trailer) (x : Result Entries Fault) → place (15 * s) q ≢ place (15 * s) r
      → placed_in (15 * s) (Some t) q (placed_in (15 * s) o r x) ≡ placed_in (15 * s) o r (placed_in (15 * s) (Some t) q x)
  swapped q r t None x ne = refl
  swapped q r t (Some u) (Err e) ne = refl
  swapped q r t (Some u) (Ok es) ne =
      ap Ok (sym (set_comm es (place (15 * s) q) (place (15 * s) r) (Some t) (Some u) ne))

  -- So a number may be put in before all those after it.
  before : (q : ℕ) (t : Trailer) (n r : ℕ) (es : Entries) → 1 ≤ q → q < r → r + n ≤ q + 15 * s
      → placed_in (15 * s) (Some t) q (filled es n r) ≡ filled (set es (place (15 * s) q) (Some t)) n r
  before q t zero r es one lt near = refl
  before q t (suc n) r es one lt near =
      swapped q r t (described_in s gs b ts r) (filled es n (r + 1))
      (place_apart (15 * s) q r one lt (omega arith))
      ∙ ap (placed_in (15 * s) (described_in s gs b ts r) r) (before q t n (r + 1) es one (omega arith) (omega arith))

  -- The next of the numbers up to the end.
  next : (end q : ℕ) (es : Entries) → q < end
      → filled es (end - q) q ≡ placed_in (15 * s) (described_in s gs b ts q) q (filled es (end - (q + 1)) (q + 1))
  next end q es lt = let one : end - q ≡ suc (end - (q + 1)) = omega arith in ap (λ n. filled es n q) one

  pub filled_more : (end q : ℕ) (t : Trailer) (es : Entries) → 1 ≤ q → q < end → end ≤ q + 15 * s
      → Some t ≡ described_in s gs b ts q
      → filled es (end - q) q ≡ filled (set es (place (15 * s) q) (Some t)) (end - (q + 1)) (q + 1)
  filled_more end q t es one lt near is =
      next end q es lt
      ∙ ap (λ o. placed_in (15 * s) o q (filled es (end - (q + 1)) (q + 1))) (sym is)
      ∙ before q t (end - (q + 1)) (q + 1) es one (omega arith) (omega arith)

  pub filled_not : (end q : ℕ) (es : Entries) → q < end → None ≡ described_in s gs b ts q
      → filled es (end - q) q ≡ Err (foreign_at (place (15 * s) q))
  filled_not end q es lt is =
      next end q es lt ∙ ap (λ o. placed_in (15 * s) o q (filled es (end - (q + 1)) (q + 1))) (sym is)

  pub filled_all : (end q : ℕ) (es : Entries) → end ≤ q → filled es (end - q) q ≡ Ok es
  filled_all end q es le = let none : end - q ≡ 0 = omega arith in ap (λ n. filled es n q) none

-- What is not known fails with this fault.
pub fault_is : (o : Option Trailer) (e f : Fault) → o ≡ None → Err e ≡ ok_or o f → e ≡ f
fault_is None e f none is = cc
fault_is (Some t) e f none is = let z : ◌≡◌ {A = ℕ} 0 1 = cc in absurd (omega arith)

-- The same as in the rules.
placed_is : (m : Meaning) (o : Option Trailer) (q : ℕ) (r : Result Entries Fault)
    → placed_in (frames m) o q r ≡ placed m o q r
placed_is m None q r = refl
placed_is m (Some t) q (Err e) = refl
placed_is m (Some t) q (Ok es) = refl

pub gather_is : (m : Meaning) (gs : List (Option Segment)) (b : ℕ) (ts : List Trailer) (n q : ℕ)
    → gathered (groups m) gs b ts n q ≡ gather m gs b ts n q
gather_is m gs b ts zero q = refl
gather_is m gs b ts (suc n) q =
    placed_is m (described_by m gs b ts q) q _
    ∙ ap (placed m (described_by m gs b ts q) q) (gather_is m gs b ts n (q + 1))
