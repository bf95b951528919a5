-- What is written is read back.
use Rattle.std.proofs.Common.{◌≡◌, ℕ, ◌+◌, ◌-◌, ◌/◌, ◌%◌, ◌≤◌, max, true, cond, eqb, List, [], ◌∷◌, ◌++◌, length, get_or, take, Some, None, sym, refl, ap, ◌∙◌, subst, ap₂, zero-add, arith}
use Rattle.std.proofs.lemmas.List.{take_at, length-append, append_assoc}
use Rattle.std.proofs.lemmas.Bool.{and_from, le-leb, eq-eqb}
use Rattle.medium.specs.Meaning.{Bytes, Meaning}
use Rattle.rules.specs.declared.trailer.Trailer.{Trailer}
use Rattle.rules.specs.Format.{Segment, encode, encode_all, encode_segment, fields, is_proper, proper}
use Rattle.rules.specs.Format.{described, pushed, of2, of4, most}
use Rattle.rules.specs.Queue.{frames, segment_page}
use Rattle.rules.specs.Recovery.{is_segment, segment_in, with_entries}
use Rattle.rules.proofs.Invariant.{Good}
use Rattle.rules.proofs.Codec.{At, at_part, at_end, at_of4, at_of2, of_le4, length_encode, fields_at, proper_at}
use Rattle.rules.proofs.Bytes.{length_all}
use Rattle.format.specs.RoundTrip.{Proper, Numbered, Seated, SegmentReadsBack, TrailersDiffer}
use Rattle.format.specs.Segments.{ending}

good : (p : ℕ) (t : Trailer) → Proper p t → Good p t
good p t is = record { some = is.some; few = is.few; back = is.back; page = is.page }

-- A proper trailer that stands in bs from o on.
module _ (p : ℕ) (few : p ≤ 240) (t : Trailer) (is : Proper p t) (bs : Bytes) (o : ℕ) (at : At bs o (encode t)) where
  read : fields bs o ≡ t
  read = fields_at p few t is.last (good p t is) bs o at

  sound : is_proper p bs o ≡ true
  sound = proper_at p few t is.last (good p t is) bs o at is.first

  found : proper p bs o ≡ Some t
  found = ap (λ b. cond b (Some (fields bs o)) None) sound ∙ ap Some read

pub trailer_read_back : (p : ℕ) (body : Bytes) (t : Trailer) → p ≤ 240 → length body ≡ 240 → Proper p t
    → proper p (body ++ encode t) 240 ≡ Some t
trailer_read_back p body t few long is = found p few t is (body ++ encode t) 240 (at_end body (encode t) 240 long)

pub body_read_back : (body : Bytes) (t : Trailer) → length body ≡ 240 → take 240 (body ++ encode t) ≡ body
body_read_back body t long = take_at body (encode t) 240 long

alone : (t : Trailer) → At (encode t) 0 (encode t)
alone t i lt = ap (λ k. get_or (encode t) k 0) (zero-add i)

pub trailers_differ : TrailersDiffer
trailers_differ p t u few is it same =
    sym (read p few t is (encode t) 0 (alone t))
    ∙ ap (λ bs. fields bs 0) same
    ∙ read p few u it (encode u) 0 (alone u)

-- The entries, one and then all.
described_step : (p : ℕ) (bs : Bytes) (n o q : ℕ) (t : Trailer) (ts : List Trailer)
    → is_proper p bs o ≡ true → fields bs o ≡ t → t.q ≡ q → described p bs n (o + 16) (q + 1) ≡ Some ts
    → described p bs (ℕ.suc n) o q ≡ Some (t ∷ ts)
described_step p bs n o q t ts good is own rest =
    let number = eq-eqb (fields bs o).q q (ap (λ (u : Trailer). u.q) is ∙ own) in
    ap (λ b. cond b (pushed (fields bs o) (described p bs n (o + 16) (q + 1))) None)
    (and_from (is_proper p bs o) (eqb (fields bs o).q q) good number)
    ∙ ap₂ pushed is rest

described_is : (p : ℕ) → p ≤ 240 → (ts : List Trailer) (q : ℕ) (xs ys : Bytes) (o : ℕ)
    → length xs ≡ o → Numbered p q ts
    → described p (xs ++ (encode_all ts ++ ys)) (length ts) o q ≡ Some ts
described_is p few [] q xs ys o long all = refl
described_is p few (t ∷ ts) q xs ys o long (is, own, all) =
    let rest = encode_all ts in
    let bs = xs ++ ((encode t ++ rest) ++ ys) in
    let two : bs ≡ xs ++ (encode t ++ (rest ++ ys)) = ap (λ zs. xs ++ zs) (append_assoc (encode t) rest ys) in
    let three : (xs ++ encode t) ++ (rest ++ ys) ≡ bs = append_assoc xs (encode t) (rest ++ ys) ∙ sym two in
    let at : At bs o (encode t) =
    subst (λ zs. At zs o (encode t)) (sym two) (at_part xs (encode t) (rest ++ ys) o long) in
    let long' : length (xs ++ encode t) ≡ o + 16 = simp (length-append, length_encode) (omega arith) in
    let ih = described_is p few ts (q + 1) (xs ++ encode t) ys (o + 16) long' all in
    described_step p bs (length ts) o q t ts (sound p few t is bs o at) (read p few t is bs o at) own
    (subst (λ zs. described p zs (length ts) (o + 16) (q + 1) ≡ Some ts) three ih)

-- A segment in its place: its fields are read back, and fit.
module _ (m : Meaning) (p j : ℕ) (g : Segment) (few : p ≤ 240) (is : Seated m p j g) where
  abbrev bs : Bytes
  bs = encode_segment g

  unfoldable tail : Bytes
  tail = ending g.last g.front

  at_tail : At bs 240 tail
  unfolding encode_segment tail
  at_tail = at_end (encode_all g.entries) tail 240 (length_all g.entries ∙ omega (arith, is.fifteen))

  last_is : of4 bs 240 ≡ g.last
  unfolding tail
  last_is = at_of4 _ tail 240 0 240 at_tail refl (omega arith) ∙ of_le4 g.last (omega (arith, is.greatest))

  front_is : of4 bs 244 ≡ g.front
  unfolding tail
  front_is =
      at_of4 _ tail 240 4 244 at_tail refl (omega arith)
      ∙ of_le4 g.front (omega (arith, is.greatest, is.before))

  start_is : of4 bs 248 ≡ g.last - 14
  unfolding tail
  start_is =
      at_of4 _ tail 240 8 248 at_tail refl (omega arith) ∙ of_le4 (g.last - 14) (omega (arith, is.greatest))

  count_is : of2 bs 252 ≡ 15
  unfolding tail
  count_is = at_of2 _ tail 240 12 252 at_tail refl (omega arith)

  none_is : get_or bs 254 0 ≡ 0
  unfolding tail
  none_is = at_tail 14 (omega arith)

  mark_is : get_or bs 255 0 ≡ 2
  unfolding tail
  mark_is = at_tail 15 (omega arith)

  entries_are : described p bs 15 0 (of4 bs 240 - 14) ≡ Some g.entries
  unfolding encode_segment
  entries_are =
      ap₂ (λ n q. described p bs n 0 q) (sym is.fifteen) (ap (λ n. n - 14) last_is)
      ∙ described_is p few g.entries (g.last - 14) [] _ 0 refl is.entries

  fits : is_segment m j bs ≡ true
  fits =
      and_from _ _ (le-leb 15 (of4 bs 240) (omega (arith, last_is, is.least)))
      (and_from _ _ (le-leb (of4 bs 240) most (omega (arith, last_is, is.greatest)))
      (and_from _ _ (eq-eqb (of4 bs 240 % 15) 0 (ap (λ n. n % 15) last_is ∙ is.whole))
      (and_from _ _
      (eq-eqb (segment_page m (of4 bs 240 / 15 - 1)) (frames m + j)
      (ap (λ n. segment_page m (n / 15 - 1)) last_is ∙ ap (λ n. frames m + n) is.place))
      (and_from _ _ (eq-eqb (of4 bs 248) (of4 bs 240 - 14) (start_is ∙ ap (λ n. n - 14) (sym last_is)))
      (and_from _ _ (eq-eqb (of2 bs 252) 15 count_is)
      (and_from _ _ (eq-eqb (get_or bs 254 0) 0 none_is)
      (and_from _ _ (eq-eqb (get_or bs 255 0) 2 mark_is)
      (and_from _ _
      (le-leb (max 1 (of4 bs 240 + 2 - frames m)) (of4 bs 244) (omega (arith, last_is, front_is, is.after)))
      (le-leb (of4 bs 244) (of4 bs 240) (omega (arith, last_is, front_is, is.before)))))))))))

  read_back : segment_in m p j bs ≡ Some g
  read_back =
      ap (λ b. cond b (with_entries bs (described p bs 15 0 (of4 bs 240 - 14))) None) fits
      ∙ ap (with_entries bs) entries_are
      ∙ (λ i. Some (record { last = last_is i; front = front_is i; entries = g.entries }))

pub segment_reads_back : SegmentReadsBack
segment_reads_back m p j g few is = read_back m p j g few is
