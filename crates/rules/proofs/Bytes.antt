-- A segment and its bytes: how many there are, and that the segment is read back from them.
use Rattle.std.proofs.Common.{◌≡◌, ℕ, zero, suc, ◌+◌, ◌-◌, ◌*◌, ◌/◌, ◌%◌, ◌≤◌, max, true, cond, eqb, List, [], ◌∷◌, ◌++◌, length, get_or, Some, None, sym, refl, ap, ◌∙◌, subst, ap₂, arith}
use Rattle.std.proofs.lemmas.Bool.{and_from, le-leb, eq-eqb}
use Rattle.std.proofs.lemmas.List.{length-append, append_assoc}
use Rattle.medium.specs.Meaning.{Bytes, Meaning}
use Rattle.rules.specs.declared.trailer.Trailer.{Trailer}
use Rattle.rules.specs.Format.{encode, encode_all, encode_segment, fields, is_proper, of2, of4, le2, le4, most}
use Rattle.rules.specs.Format.{pushed, described}
use Rattle.rules.specs.Queue.{groups, frames, segment_page}
use Rattle.rules.specs.Recovery.{is_segment, segment_in, with_entries}
use Rattle.rules.proofs.Invariant.{History, trailer, In, Written, first, trailers, seg, segment}
use Rattle.rules.proofs.Codec.{At, at_part, at_end, at_of4, at_of2, of_le4, length_encode, fields_at, proper_at}

-- Lengths.
pub length_all : (ts : List Trailer) → length (encode_all ts) ≡ 16 * length ts
length_all [] = refl
length_all (t ∷ ts) = simp (length-append, length_encode) (omega (arith, length_all ts))

pub length_trailers : (h : History) (n q : ℕ) → length (trailers h n q) ≡ n
length_trailers h zero q = refl
length_trailers h (suc n) q = ap suc (length_trailers h n (q + 1))

pub length_segment : (s : ℕ) (h : History) (g : ℕ) → length (segment s h g) ≡ 256
unfolding segment encode_segment
length_segment s h g =
    length-append (encode_all (trailers h 15 (15 * g + 1))) _ ∙ omega (arith, length_all (trailers h 15 (15 * g + 1)))

-- The entries, one and then all.
described_step : (p : ℕ) (bs : Bytes) (n o q : ℕ) (t : Trailer) (ts : List Trailer)
    → is_proper p bs o ≡ true → fields bs o ≡ t → t.q ≡ q → described p bs n (o + 16) (q + 1) ≡ Some ts
    → described p bs (suc n) o q ≡ Some (t ∷ ts)
described_step p bs n o q t ts good is own rest =
    let number = eq-eqb (fields bs o).q q (ap (λ (u : Trailer). u.q) is ∙ own) in
    ap (λ b. cond b (pushed (fields bs o) (described p bs n (o + 16) (q + 1))) None)
    (and_from (is_proper p bs o) (eqb (fields bs o).q q) good number)
    ∙ ap₂ pushed is rest

module _ (p : ℕ) (few : p ≤ 240) (h : History) (wr : Written p h) where
  pub described_is : (n q : ℕ) (xs ys : Bytes) (o : ℕ) → length xs ≡ o → 1 ≤ q → q + n ≤ length h + 1
      → described p (xs ++ (encode_all (trailers h n q) ++ ys)) n o q ≡ Some (trailers h n q)
  described_is zero q xs ys o long one fits = refl
  described_is (suc n) q xs ys o long one fits =
      let inh : In h q = (one, omega arith) in
      let t = trailer h q in
      let rest = encode_all (trailers h n (q + 1)) in
      let bs = xs ++ ((encode t ++ rest) ++ ys) in
      let own = wr.own q inh in
      let high : (trailer h q).q ≤ 4000000000 = omega (arith, wr.short) in
      let good = (wr.sound q inh).good in
      let two : bs ≡ xs ++ (encode t ++ (rest ++ ys)) = ap (λ zs. xs ++ zs) (append_assoc (encode t) rest ys) in
      let three : (xs ++ encode t) ++ (rest ++ ys) ≡ bs = append_assoc xs (encode t) (rest ++ ys) ∙ sym two in
      let at : At bs o (encode t) =
      subst (λ zs. At zs o (encode t)) (sym two) (at_part xs (encode t) (rest ++ ys) o long) in
      let long' : length (xs ++ encode t) ≡ o + 16 = simp (length-append, length_encode) (omega arith) in
      let ih = described_is n (q + 1) (xs ++ encode t) ys (o + 16) long' (omega arith) (omega arith) in
      described_step p bs n o q t (trailers h n (q + 1))
      (proper_at p few t high good bs o at (omega arith))
      (fields_at p few t high good bs o at)
      own
      (subst (λ zs. described p zs n (o + 16) (q + 1) ≡ Some (trailers h n (q + 1))) three ih)

  -- What stands behind the entries of segment g.
  unfoldable tail : ℕ → ℕ → Bytes
  tail s g =
      let last = 15 * g + 15 in
      le4 last ++ (le4 (first (15 * s) last) ++ (le4 (last - 14) ++ (le2 15 ++ (0 ∷ 2 ∷ []))))

  -- Segment g of the flash m: its bytes, and its fields in them.
  module _ (m : Meaning) (groups_low : 2 ≤ groups m) (g : ℕ) (in_h : 15 * g + 15 ≤ length h) where
    abbrev bs : Bytes
    bs = segment (groups m) h g

    at_tail : At bs 240 (tail (groups m) g)
    unfolding segment encode_segment tail
    at_tail =
        at_end (encode_all (trailers h 15 (15 * g + 1))) (tail (groups m) g) 240
        (length_all (trailers h 15 (15 * g + 1)))

    last_is : of4 bs 240 ≡ 15 * g + 15
    unfolding tail
    last_is =
        at_of4 _ (tail (groups m) g) 240 0 240 at_tail refl (omega arith)
        ∙ of_le4 (15 * g + 15) (omega (arith, wr.short))

    front_is : of4 bs 244 ≡ first (15 * groups m) (15 * g + 15)
    unfolding tail
    front_is =
        at_of4 _ (tail (groups m) g) 240 4 244 at_tail refl (omega arith)
        ∙ of_le4 (first (15 * groups m) (15 * g + 15)) (omega (arith, wr.short))

    start_is : of4 bs 248 ≡ 15 * g + 15 - 14
    unfolding tail
    start_is =
        at_of4 _ (tail (groups m) g) 240 8 248 at_tail refl (omega arith)
        ∙ of_le4 (15 * g + 15 - 14) (omega (arith, wr.short))

    count_is : of2 bs 252 ≡ 15
    unfolding tail
    count_is = at_of2 _ (tail (groups m) g) 240 12 252 at_tail refl (omega arith)

    none_is : get_or bs 254 0 ≡ 0
    unfolding tail
    none_is = at_tail 14 (omega arith)

    mark_is : get_or bs 255 0 ≡ 2
    unfolding tail
    mark_is = at_tail 15 (omega arith)

    entries_are : described p bs 15 0 (of4 bs 240 - 14) ≡ Some (trailers h 15 (15 * g + 1))
    unfolding segment encode_segment
    entries_are =
        let start : of4 bs 240 - 14 ≡ 15 * g + 1 = omega (arith, last_is) in
        ap (λ q. described p bs 15 0 q) start
        ∙ described_is 15 (15 * g + 1) [] _ 0 refl (omega arith) (omega arith)

    pub segment_found : (j : ℕ) → g % (groups m + 1) ≡ j
        → segment_in m p j (segment (groups m) h g) ≡ Some (seg (groups m) h g)
    segment_found j at =
        ap (λ b. cond b (with_entries bs (described p bs 15 0 (of4 bs 240 - 14))) None) proper
        ∙ ap (with_entries bs) entries_are
        ∙ (λ i. Some (record { last = last_is i; front = front_is i; entries = trailers h 15 (15 * g + 1) }))
      where
        seated : segment_page m (of4 bs 240 / 15 - 1) ≡ frames m + j
        seated =
            let is : of4 bs 240 / 15 - 1 ≡ g = omega (arith, last_is) in
            ap (segment_page m) is ∙ ap (λ n. frames m + n) at

        proper : is_segment m j bs ≡ true
        proper =
            and_from _ _ (le-leb 15 (of4 bs 240) (omega (arith, last_is)))
            (and_from _ _ (le-leb (of4 bs 240) most (omega (arith, last_is, wr.short)))
            (and_from _ _ (eq-eqb (of4 bs 240 % 15) 0 (omega (arith, last_is)))
            (and_from _ _ (eq-eqb (segment_page m (of4 bs 240 / 15 - 1)) (frames m + j) seated)
            (and_from _ _ (eq-eqb (of4 bs 248) (of4 bs 240 - 14) (omega (arith, last_is, start_is)))
            (and_from _ _ (eq-eqb (of2 bs 252) 15 count_is)
            (and_from _ _ (eq-eqb (get_or bs 254 0) 0 none_is)
            (and_from _ _ (eq-eqb (get_or bs 255 0) 2 mark_is)
            (and_from _ _
            (le-leb (max 1 (of4 bs 240 + 2 - frames m)) (of4 bs 244) (omega (arith, last_is, front_is)))
            (le-leb (of4 bs 244) (of4 bs 240) (omega (arith, last_is, front_is, groups_low)))))))))))
