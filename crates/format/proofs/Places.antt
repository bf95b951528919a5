-- The parts of a page, and what is said of them.
use Rattle.std.proofs.Common.{◌≡◌, ℕ, zero, suc, ◌+◌, ◌-◌, ◌*◌, ◌<◌, ◌≤◌, Bool, cond, ◌&&◌, eqb, ltb, leb, [], ◌∷◌, length, get_or, take, drop, List, Some, None, Option, sym, refl, ap, ◌∙◌, ap₂, zero-add, add-zero, add_assoc, arith}
use Rattle.std.specs.Cmp.Lexicographic.{pointwise}
use Rattle.std.proofs.lemmas.List.{get_or-take, get_or-drop, length-take}
use Rattle.std.proofs.Math.Bool.{and_assoc}
use Rattle.medium.specs.Meaning.{Bytes, Meaning}
use Rattle.rules.specs.declared.trailer.Trailer.{Trailer}
use Rattle.rules.specs.Format.{fields, proper, in_range, described, pushed, of2, of4}
use Rattle.rules.specs.Queue.{groups}
use Rattle.rules.specs.Recovery as rules
use Rattle.rules.specs.Recovery.{is_segment, segment_in}
use Rattle.rules.specs.Steps.{same}
use Rattle.rules.proofs.Codec.{At, at_of4, at_of2}
use Rattle.format.specs.declared.ending.Ending.{Ending}
use Rattle.format.specs.Segments.{ending_in, ending_fits, entries_left, with_entries, segment_at}

-- A test of bytes by pairs is the rules' test.
pub compared : (xs ys : Bytes) → pointwise eqb xs ys ≡ same xs ys
compared [] [] = refl
compared [] (y ∷ ys) = refl
compared (x ∷ xs) [] = refl
compared (x ∷ xs) (y ∷ ys) = ap (λ b. eqb x y && b) (compared xs ys)

-- The trailer in what stands behind.
pub proper_behind : (p : ℕ) (bs : Bytes) (o : ℕ) → proper p (drop o bs) 0 ≡ proper p bs o
proper_behind p bs o = simp (get_or-drop, add-zero, zero-add, add_assoc) refl

-- The entries in what stands before.
abbrev good : ℕ → Trailer → ℕ → ℕ → Bool
good p t dirty mark =
    in_range t.q && (in_range t.version && (ltb t.back t.q && (ltb t.page p && (leb dirty 1 && eqb mark 1))))

module _ (p : ℕ) (bs ts : Bytes) (at : At bs 0 ts) where
  byte : (k : ℕ) → k < length ts → get_or ts k 0 ≡ get_or bs k 0
  byte k lt = sym (ap (λ i. get_or bs i 0) (sym (zero-add k)) ∙ at k lt)

  four : (k : ℕ) → k + 3 < length ts → of4 ts k ≡ of4 bs k
  four k lt = sym (at_of4 bs ts 0 k k at (sym (zero-add k)) lt)

  two : (k : ℕ) → k + 1 < length ts → of2 ts k ≡ of2 bs k
  two k lt = sym (at_of2 bs ts 0 k k at (sym (zero-add k)) lt)

  fields_are : (o : ℕ) → o + 16 ≤ length ts → fields ts o ≡ fields bs o
  fields_are o fits =
      let q = four o (omega arith) in
      let back = four (o + 4) (omega arith) in
      let version = four (o + 8) (omega arith) in
      let page = two (o + 12) (omega arith) in
      let dirty = ap (λ n. eqb n 1) (byte (o + 14) (omega arith)) in
      λ i. record { q = q i; back = back i; version = version i; page = page i; dirty = dirty i }

  described_are : (n o q : ℕ) → o + 16 * n ≤ length ts → described p ts n o q ≡ described p bs n o q
  described_are zero o q fits = refl
  described_are (suc n) o q fits =
      let t = fields_are o (omega arith) in
      let dirty = byte (o + 14) (omega arith) in
      let mark = byte (o + 15) (omega arith) in
      let rest = described_are n (o + 16) (q + 1) (omega arith) in
      λ i. cond (good p (t i) (dirty i) (mark i) && eqb (t i).q q) (pushed (t i) (rest i)) None

-- What stands behind, as said in the page.
abbrev behind : Bytes → Ending
behind bs =
    record {
      last = of4 bs 240;
      front = of4 bs 244;
      first = of4 bs 248;
      count = of2 bs 252;
      zero = get_or bs 254 0;
      mark = get_or bs 255 0;
    }

ending_is : (bs : Bytes) → ending_in (drop 240 bs) ≡ behind bs
ending_is bs = simp get_or-drop refl

fits_are : (m : Meaning) (j : ℕ) (bs : Bytes) → is_segment m j bs ≡ ending_fits (groups m) j (behind bs)
fits_are m j bs = simp and_assoc refl

said_are : (bs : Bytes) (o : Option (List Trailer)) → rules.with_entries bs o ≡ with_entries (behind bs) o
said_are bs None = refl
said_are bs (Some ts) = refl

-- The segment as the rules read it, in the two parts of a page.
pub segment_is : (m : Meaning) (p j : ℕ) (bs : Bytes) → length bs ≡ 256
    → segment_in m p j bs ≡ segment_at (groups m) p j (take 240 bs) (ending_in (drop 240 bs))
unfolding entries_left
segment_is m p j bs long =
    let body = take 240 bs in
    let q = of4 bs 240 - 14 in
    let whole : length body ≡ 240 = simp length-take (omega arith) in
    let at : At bs 0 body = λ i lt. simp (zero-add, get_or-take 240 bs i 0 (omega arith)) refl in
    let same : described p bs 15 0 q ≡ described p body 15 0 (q + 0) =
    sym (described_are p bs body at 15 0 q (omega arith)) ∙ ap (described p body 15 0) (sym (add-zero q)) in
    ap₂ (λ b o. cond b o None) (fits_are m j bs)
    (ap (rules.with_entries bs) same ∙ said_are bs (described p body 15 0 (q + 0)))
    ∙ ap (segment_at (groups m) p j body) (sym (ending_is bs))
