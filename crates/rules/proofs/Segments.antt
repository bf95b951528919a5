-- The segment pages of the flash: the history grows, a frame is written, and the next segment is written or struck.
use Rattle.std.proofs.Common.{◌≡◌, ℕ, zero, suc, ◌+◌, ◌*◌, ◌%◌, ◌<◌, ◌≤◌, ◌≢◌, List, ◌∷◌, length, get_or, set, Some, None, Option, sym, refl, ap, ◌∙◌, ap₂, inl, inr, mod-lt, arith}
use native.Mathlib.Nat.{add-mod_right}
use Rattle.std.proofs.lemmas.Bool.{cases_eq}
use Rattle.std.proofs.lemmas.List.{get_or-set_other}
use Rattle.medium.specs.Meaning.{Bytes}
use Rattle.rules.specs.declared.trailer.Trailer.{Trailer}
use Rattle.rules.specs.Format.{encode_segment}
use Rattle.rules.proofs.Invariant.{Pages, Page, History, first, trailers, segment, OfSegment, Described}
use Rattle.rules.proofs.Past.{grown, length_grown, trailer_old, apart, set_at, set_some, set_none}

-- Trailers and segments of numbers that were there before the history grew.
pub trailers_old : (h : History) (e : Page) (n q : ℕ) → 1 ≤ q → q + n ≤ length h + 1
    → trailers (grown h e) n q ≡ trailers h n q
trailers_old h e zero q one fits = refl
trailers_old h e (suc n) q one fits =
    ap₂ (λ x xs. x ∷ xs) (trailer_old h e q (one, omega arith))
    (trailers_old h e n (q + 1) (omega arith) (omega arith))

pub segment_old : (s : ℕ) (h : History) (e : Page) (g : ℕ) → 15 * g + 15 ≤ length h
    → segment s (grown h e) g ≡ segment s h g
unfolding segment
segment_old s h e g fits =
    let last = 15 * g + 15 in
    ap (λ (ts : List Trailer). encode_segment (record { last = last; front = first (15 * s) last; entries = ts }))
    (trailers_old h e 15 (15 * g + 1) (omega arith) (omega arith))

pub described_grown : (ps : Pages) (s : ℕ) (h : History) (e : Page) (k : ℕ) → length h < 15 * k + 15
    → Described ps s h k → Described ps s (grown h e) k
described_grown ps s h e k room ds =
    let n = length_grown h e in
    let old : (g : ℕ) → g < k → segment s h g ≡ segment s (grown h e) g =
    λ g lt. sym (segment_old s h e g (omega (arith, ds.low))) in
    record {
      low = omega (arith, ds.low);
      high = omega arith;
      there = λ g lt near. ds.there g lt near ∙ ap Some (old g lt);
      only = λ j bs le is.
          let (g, lt, near, at, same) = ds.only j bs le is in
          (g, lt, near, at, same ∙ old g lt);
    }

-- The page of segment k.
abbrev pub seat : ℕ → ℕ → ℕ
seat s k = 15 * s + k % (s + 1)

pub seat_lt : (s k : ℕ) → seat s k < 16 * s + 1
seat_lt s k = omega (arith, mod-lt k {m = s + 1} (omega arith))

-- Segments less than s + 1 apart have different pages.
seat_apart : (s g k : ℕ) → g < k → k ≤ g + s → seat s g ≢ seat s k
seat_apart s g k lt near e = apart (s + 1) g k lt (omega arith) (omega (arith, e))

module _ (ps : Pages) (s : ℕ) (h : History) (k : ℕ) where
  -- A write among the frames.
  pub described_before : (i : ℕ) (v : Option Bytes) → i < 15 * s → Described ps s h k → Described (set ps i v) s h k
  described_before i v near ds =
      record {
        low = ds.low;
        high = ds.high;
        there = λ g lt le. get_or-set_other ps i (seat s g) v None (λ e. omega (arith, e)) ∙ ds.there g lt le;
        only = λ j bs le is.
            ds.only j bs le (sym (get_or-set_other ps i (15 * s + j) v None (λ e. omega (arith, e))) ∙ is);
      }

  -- The next segment is written.
  pub described_more : length ps ≡ 16 * s + 1 → length h ≡ 15 * k + 15 → Described ps s h k
      → Described (set ps (seat s k) (Some (segment s h k))) s h (k + 1)
  described_more size due ds = record { low = omega arith; high = omega arith; there = there; only = only }
    where
      here : seat s k < length ps
      here = omega (arith, seat_lt s k)

      there : (g : ℕ) → g < k + 1 → k + 1 ≤ g + s
          → get_or (set ps (seat s k) (Some (segment s h k))) (seat s g) None ≡ Some (segment s h g)
      there g lt near =
          elim (cases_eq g k) [
            | inl eq ↦
                set_at ps (seat s k) (seat s g) _ here (ap (seat s) eq) ∙ ap (λ i. Some (segment s h i)) (sym eq)
            | inr ne ↦
                get_or-set_other ps _ _ _ None (seat_apart s g k (omega arith) (omega arith))
                ∙ ds.there g (omega arith) (omega arith)
          ]

      only : (j : ℕ) (bs : Bytes) → j ≤ s
          → get_or (set ps (seat s k) (Some (segment s h k))) (15 * s + j) None ≡ Some bs
          → OfSegment s h (k + 1) j bs
      only j bs le is =
          elim (set_some ps (seat s k) (15 * s + j) _ bs here is) [
            | inl (eq, same) ↦ (k, omega arith, omega arith, omega arith, cc)
            | inr (ne, was) ↦
                let (g, lt, near, at, same) = ds.only j bs le was in
                let off : k ≢ g + (s + 1) =
                λ w. ne (ap (λ i. 15 * s + i) (sym (ap (λ i. i % (s + 1)) w ∙ add-mod_right g (s + 1) ∙ at))) in
                (g, omega arith, omega arith, at, same)
          ]

  -- That write was struck.
  pub described_torn : length ps ≡ 16 * s + 1 → Described ps s h k → Described (set ps (seat s k) None) s h k
  described_torn size ds =
      record {
        low = ds.low;
        high = ds.high;
        there = λ g lt near. get_or-set_other ps _ _ _ None (seat_apart s g k lt near) ∙ ds.there g lt near;
        only = λ j bs le is.
            ds.only j bs le (set_none ps (seat s k) (15 * s + j) bs (omega (arith, seat_lt s k)) is).1;
      }
