-- A page and its bytes: numbers, trailers and bodies are read back from their bytes.
use Rattle.std.proofs.Common.{◌≡◌, ℕ, ◌+◌, ◌*◌, ◌/◌, ◌%◌, ◌<◌, ◌≤◌, Bool, true, false, cond, eqb, [], ◌∷◌, ◌++◌, length, get_or, take, drop, sym, refl, ap, ◌∙◌, ap₂, mod-eq_of_lt, arith}
use native.Mathlib.Nat.{div-div-eq-div-mul, div-add-mod}
use Rattle.std.proofs.lemmas.Bool.{and_from, and_parts, eqb-true, le-leb, lt-ltb, eq-eqb}
use Rattle.std.proofs.lemmas.List.{get_or-append_right, get_or_append_left, take_at, drop_at, length-append}
use Rattle.medium.specs.Meaning.{Bytes}
use Rattle.rules.specs.declared.trailer.Trailer.{Trailer}
use Rattle.rules.specs.Steps.{same}
use Rattle.rules.specs.Format.{encode, fields, is_proper, of2, of4}
use Rattle.rules.proofs.Invariant.{Page, bytes, Good, Sound}

-- A number below 256 to the fourth is read back from its four bytes, one below 256 squared from its two.
joined : (n a b c w x y z : ℕ) → n ≡ 256 * a + w → a ≡ 256 * b + x → b ≡ 256 * c + y → z ≡ c
    → w + 256 * x + 65536 * y + 16777216 * z ≡ n
joined n a b c w x y z e f g t = omega arith

pub of_le4 : (n : ℕ) → n < 4294967296
    → n % 256 + 256 * (n / 256 % 256) + 65536 * (n / 65536 % 256) + 16777216 * (n / 16777216 % 256) ≡ n
of_le4 n lt =
    let b : n / 65536 ≡ n / 256 / 256 = sym (div-div-eq-div-mul n 256 256) in
    let c : n / 16777216 ≡ n / 65536 / 256 = sym (div-div-eq-div-mul n 65536 256) in
    let x : n ≡ 256 * (n / 256) + n % 256 = omega arith in
    let y : n / 256 ≡ 256 * (n / 65536) + n / 256 % 256 = omega (arith, div-add-mod (n / 256) 256) in
    let z : n / 65536 ≡ 256 * (n / 16777216) + n / 65536 % 256 = omega (arith, div-add-mod (n / 65536) 256) in
    let top : n / 16777216 % 256 ≡ n / 16777216 = mod-eq_of_lt (omega arith) in
    joined n (n / 256) (n / 65536) (n / 16777216) _ _ _ _ x y z top

pub of_le2 : (n : ℕ) → n < 65536 → n % 256 + 256 * (n / 256 % 256) ≡ n
of_le2 n lt = omega arith

-- A trailer has sixteen bytes.
pub length_encode : (t : Trailer) → length (encode t) ≡ 16
unfolding encode
length_encode t = refl

-- The test `same` holds of equal bytes, and of no others.
pub same_self : (bs : Bytes) → same bs bs ≡ true
same_self [] = refl
same_self (x ∷ xs) = and_from (eqb x x) (same xs xs) (eq-eqb x x refl) (same_self xs)

pub same_is : (xs ys : Bytes) → same xs ys ≡ true → xs ≡ ys
same_is [] [] e = refl
same_is [] (y ∷ ys) e = let z : ◌≡◌ {A = ℕ} 0 1 = cc in absurd (omega arith)
same_is (x ∷ xs) [] e = let z : ◌≡◌ {A = ℕ} 0 1 = cc in absurd (omega arith)
same_is (x ∷ xs) (y ∷ ys) e =
    let (a, b) = and_parts (eqb x y) (same xs ys) e in
    ap₂ (λ u us. u ∷ us) (eqb-true x y a) (same_is xs ys b)

-- The byte that says whether a page is dirty.
dirty_byte : (b : Bool) → eqb (cond b 1 0) 1 ≡ b
dirty_byte true = refl
dirty_byte false = refl

dirty_low : (b : Bool) → cond b 1 0 ≤ 1
dirty_low true = omega arith
dirty_low false = omega arith

-- The bytes ts stand in bs from o on.
abbrev pub At : Bytes → ℕ → Bytes → Type 0
At bs o ts = (i : ℕ) → i < length ts → get_or bs (o + i) 0 ≡ get_or ts i 0

pub at_end : (xs ts : Bytes) (o : ℕ) → length xs ≡ o → At (xs ++ ts) o ts
at_end xs ts o long i lt =
    get_or-append_right xs ts o (o + i) 0 long (omega arith) ∙ ap (λ k. get_or ts k 0) (omega arith)

pub at_part : (xs ts ys : Bytes) (o : ℕ) → length xs ≡ o → At (xs ++ (ts ++ ys)) o ts
at_part xs ts ys o long i lt =
    at_end xs (ts ++ ys) o long i (omega (arith, length-append ts ys)) ∙ get_or_append_left ts ys 0 i lt

-- A byte there, and a number of four bytes and of two.
at_byte : (bs ts : Bytes) (o j k : ℕ) → At bs o ts → k ≡ o + j → j < length ts → get_or bs k 0 ≡ get_or ts j 0
at_byte bs ts o j k at is lt = ap (λ i. get_or bs i 0) is ∙ at j lt

pub at_of4 : (bs ts : Bytes) (o j k : ℕ) → At bs o ts → k ≡ o + j → j + 3 < length ts → of4 bs k ≡ of4 ts j
at_of4 bs ts o j k at is lt =
    let a = at_byte bs ts o j k at is (omega arith) in
    let b = at_byte bs ts o (j + 1) (k + 1) at (omega arith) (omega arith) in
    let c = at_byte bs ts o (j + 2) (k + 2) at (omega arith) (omega arith) in
    let d = at_byte bs ts o (j + 3) (k + 3) at (omega arith) (omega arith) in
    omega arith

pub at_of2 : (bs ts : Bytes) (o j k : ℕ) → At bs o ts → k ≡ o + j → j + 1 < length ts → of2 bs k ≡ of2 ts j
at_of2 bs ts o j k at is lt =
    let a = at_byte bs ts o j k at is (omega arith) in
    let b = at_byte bs ts o (j + 1) (k + 1) at (omega arith) (omega arith) in
    omega arith

-- A good trailer stands in bs from o on: its fields are read back, and are proper.
module _ (p : ℕ) (few : p ≤ 240) (t : Trailer) (high : t.q ≤ 4000000000) (go : Good p t)
    (bs : Bytes) (o : ℕ) (at : At bs o (encode t)) where
  q_is : of4 bs o ≡ t.q
  unfolding encode
  q_is = at_of4 bs (encode t) o 0 o at (omega arith) (omega arith) ∙ of_le4 t.q (omega arith)

  back_is : of4 bs (o + 4) ≡ t.back
  unfolding encode
  back_is = at_of4 bs (encode t) o 4 (o + 4) at refl (omega arith) ∙ of_le4 t.back (omega (arith, go.back))

  version_is : of4 bs (o + 8) ≡ t.version
  unfolding encode
  version_is = at_of4 bs (encode t) o 8 (o + 8) at refl (omega arith) ∙ of_le4 t.version (omega (arith, go.few))

  page_is : of2 bs (o + 12) ≡ t.page
  unfolding encode
  page_is = at_of2 bs (encode t) o 12 (o + 12) at refl (omega arith) ∙ of_le2 t.page (omega (arith, go.page))

  dirty_at : get_or bs (o + 14) 0 ≡ cond t.dirty 1 0
  unfolding encode
  dirty_at = at 14 (omega arith)

  mark_at : get_or bs (o + 15) 0 ≡ 1
  unfolding encode
  mark_at = at 15 (omega arith)

  dirty_is : eqb (get_or bs (o + 14) 0) 1 ≡ t.dirty
  dirty_is = ap (λ n. eqb n 1) dirty_at ∙ dirty_byte t.dirty

  pub fields_at : fields bs o ≡ t
  fields_at =
      λ i. record { q = q_is i; back = back_is i; version = version_is i; page = page_is i; dirty = dirty_is i }

  pub proper_at : 1 ≤ t.q → is_proper p bs o ≡ true
  proper_at one =
      let dirty_le = dirty_low t.dirty in
      and_from _ _
      (and_from _ _ (le-leb 1 (of4 bs o) (omega (arith, q_is))) (le-leb (of4 bs o) 4000000000 (omega (arith, q_is))))
      (and_from _ _
      (and_from _ _ (le-leb 1 (of4 bs (o + 8)) (omega (arith, version_is, go.some)))
      (le-leb (of4 bs (o + 8)) 4000000000 (omega (arith, version_is, go.few))))
      (and_from _ _ (lt-ltb (of4 bs (o + 4)) (of4 bs o) (omega (arith, q_is, back_is, go.back)))
      (and_from _ _ (lt-ltb (of2 bs (o + 12)) p (omega (arith, page_is, go.page)))
      (and_from _ _ (le-leb (get_or bs (o + 14) 0) 1 (omega (arith, dirty_at)))
      (eq-eqb (get_or bs (o + 15) 0) 1 mark_at)))))

-- The bytes of a page of the history.
module _ (p : ℕ) (few : p ≤ 240) (e : Page) (high : e.trailer.q ≤ 4000000000) (so : Sound p e) where
  pub bytes_long : length (bytes e) ≡ 256
  unfolding bytes
  bytes_long = simp (length-append, length_encode) (omega (arith, so.long))

  pub bytes_body : take 240 (bytes e) ≡ e.body
  unfolding bytes
  bytes_body = take_at e.body (encode e.trailer) 240 so.long

  pub bytes_end : drop 240 (bytes e) ≡ encode e.trailer
  unfolding bytes
  bytes_end = drop_at e.body (encode e.trailer) 240 so.long

  bytes_at : At (bytes e) 240 (encode e.trailer)
  unfolding bytes
  bytes_at = at_end e.body (encode e.trailer) 240 so.long

  pub bytes_fields : fields (bytes e) 240 ≡ e.trailer
  bytes_fields = fields_at p few e.trailer high so.good (bytes e) 240 bytes_at

  pub bytes_proper : 1 ≤ e.trailer.q → is_proper p (bytes e) 240 ≡ true
  bytes_proper = proper_at p few e.trailer high so.good (bytes e) 240 bytes_at
