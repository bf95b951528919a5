-- What is read back from the flash is as the history has it: a page and its trailer, and all that a mount reads, which
-- is the segments with the newest of them, the frames after that, and from these the directory.
use Rattle.std.proofs.Common.{◌≡◌, ℕ, zero, suc, ◌+◌, ◌-◌, ◌*◌, ◌/◌, ◌%◌, ◌<◌, ◌≤◌, min, Bool, true, false, cond, ltb, ◌⊎◌, List, [], ◌∷◌, length, get_or, take, set, replicate, Some, None, Ok, Err, Option, Result, sym, refl, ap, ◌∙◌, subst, ap₂, inl, inr, ⊎_elim, mod-lt, arith}
use native.Mathlib.Numerals.{unary_clauses}
use Rattle.std.proofs.lemmas.Bool.{cases_eq, cases_lt, and_from, eq-eqb, ne_eqb, lt-ltb, le-ltb, ltb-true, ltb-false}
use Rattle.std.proofs.lemmas.List.{get_or-set_same, get_or-set_other, length-set, get_or-replicate, get_or_past, length-replicate}
use Rattle.medium.specs.Meaning.{Bytes, Meaning, page}
use Rattle.rules.specs.declared.fault.Fault.{Fault}
use Rattle.rules.specs.declared.trailer.Trailer.{Trailer}
use Rattle.rules.specs.Steps.{same}
use Rattle.rules.specs.Format.{Segment, fields, proper}
use Rattle.rules.specs.Queue.{groups, frames, place}
use Rattle.rules.specs.Recovery.{segment_in, found_in, from_page, joined, read_segments, later, newest}
use Rattle.rules.specs.Recovery.{Tail, dark_at, ended, more, older, sort_of, from_frame, read_tail}
use Rattle.rules.specs.Recovery.{nth, of_group, described_by, placed, gather, no_entries}
use Rattle.rules.proofs.Invariant.{History, hist, trailer, trailers, bytes, body, seg, In, first}
use Rattle.rules.proofs.Invariant.{Written, Framed, Described, Directory}
use Rattle.rules.proofs.Past.{place_lt, place_apart, place_same}
use Rattle.rules.proofs.Codec.{bytes_fields, bytes_proper, bytes_body}
use Rattle.rules.proofs.Bytes.{segment_found}

-- The bytes of number q, as they are read back.
module _ (d : ℕ) (few : d ≤ 240) (h : History) (wr : Written d h) (q : ℕ) (inh : In h q) where
  number_le : (trailer h q).q ≤ 4000000000
  number_le = omega (arith, wr.own q inh, wr.short, inh.1)

  pub hist_body : take 240 (bytes (hist h q)) ≡ body h q
  hist_body = bytes_body d few (hist h q) number_le (wr.sound q inh)

  pub hist_fields : fields (bytes (hist h q)) 240 ≡ trailer h q
  hist_fields = bytes_fields d few (hist h q) number_le (wr.sound q inh)

  pub hist_proper : proper d (bytes (hist h q)) 240 ≡ Some (trailer h q)
  hist_proper =
      let some : 1 ≤ (trailer h q).q = omega (arith, wr.own q inh, inh.0) in
      ap (λ b. cond b (Some (fields (bytes (hist h q)) 240)) None)
      (bytes_proper d few (hist h q) number_le (wr.sound q inh) some)
      ∙ ap Some hist_fields

-- No segment of a list has a last number above n.
abbrev Under : List (Option Segment) → ℕ → Type 0
Under gs n = (i : ℕ) (b : Segment) → get_or gs i None ≡ Some b → b.last ≤ n

none_under : (gs : List (Option Segment)) (n : ℕ) → ((i : ℕ) → get_or gs i None ≡ None) → Under gs n
none_under gs n none i b e = let is = none i in let z : ◌≡◌ {A = ℕ} 0 1 = cc in absurd (omega arith)

under_none : (gs : List (Option Segment)) (n : ℕ) → Under gs n → Under (None ∷ gs) n
under_none gs n top zero b e = let z : ◌≡◌ {A = ℕ} 0 1 = cc in absurd (omega arith)
under_none gs n top (suc i) b e = top i b e

under_some : (g : Segment) (gs : List (Option Segment)) (n : ℕ) → g.last ≤ n → Under gs n → Under (Some g ∷ gs) n
under_some g gs n le top zero b e = let same : b ≡ g = cc in omega (arith, ap (λ (x : Segment). x.last) same)
under_some g gs n le top (suc i) b e = top i b e

under_le : (gs : List (Option Segment)) (k n : ℕ) → k ≤ n → Under gs k → Under gs n
under_le gs k n le top i b e = omega (arith, top i b e)

-- The newest of a list of segments: it stands in the list, and none has a higher last number.
abbrev Newest : List (Option Segment) → Option Segment → Type 0
Newest gs None = (i : ℕ) → get_or gs i None ≡ None
Newest gs (Some a) = ((i : ℕ) × (i < length gs) × (get_or gs i None ≡ Some a)) × Under gs a.last

later_is : (g : Option Segment) (gs : List (Option Segment)) (r : Option Segment) → Newest gs r
    → Newest (g ∷ gs) (later g r)
later_is None gs None none = elim [ zero ↦ refl | suc i ↦ none i ]
later_is None gs (Some a) ((i, lt, is), top) = ((suc i, omega arith, is), under_none gs a.last top)
later_is (Some g) gs None none =
    ((0, omega arith, refl), under_some g gs g.last (omega arith) (none_under gs g.last none))
later_is (Some g) gs (Some a) ((i, lt, is), top) = go (ltb g.last a.last) refl
  where
    go : (c : Bool) → ltb g.last a.last ≡ c → Newest (Some g ∷ gs) (cond c (Some a) (Some g))
    go true e =
        let less = ltb-true g.last a.last e in
        ((suc i, omega arith, is), under_some g gs a.last (omega arith) top)
    go false e =
        let more = ltb-false g.last a.last e in
        ((0, omega arith, refl), under_some g gs g.last (omega arith) (under_le gs a.last g.last more top))

newest_is : (gs : List (Option Segment)) → Newest gs (newest gs)
newest_is [] = λ i. refl
newest_is (g ∷ gs) = later_is g gs (newest gs) (newest_is gs)

-- A directory before the first entry is made.
none_at : (n i : ℕ) → get_or (replicate {A = Option Trailer} n None) i None ≡ None
none_at n i =
    ⊎_elim (λ (lt : i < n). get_or-replicate n i None None lt)
    (λ (le : n ≤ i). get_or_past (replicate n None) i None (omega (arith, length-replicate {A = Option Trailer} n None)))
    (cases_lt i n)

empty_directory : (c : ℕ) (h : History) → c ≤ 210 → Directory no_entries c (length h + 1) h
unfolding no_entries
empty_directory c h top =
    record {
      size = omega (arith, length-replicate {A = Option Trailer} 210 None);
      there = λ q lo inh. absurd (omega (arith, lo, inh.1));
      only = λ i t is. let none = none_at 210 i in let z : ◌≡◌ {A = ℕ} 0 1 = cc in absurd (omega arith);
    }

-- One more entry in front.
module _ (es : List (Option Trailer)) (c : ℕ) (h : History) (pos : 1 ≤ c) (q : ℕ) (inh : In h q)
    (near : length h < q + c) (di : Directory es c (q + 1) h) where
  abbrev es' : List (Option Trailer)
  es' = set es (place c q) (Some (trailer h q))

  entry_here : get_or es' (place c q) None ≡ Some (trailer h q)
  entry_here = get_or-set_same es _ (Some (trailer h q)) None (omega (arith, place_lt c q pos, di.size))

  entry_there : (r : ℕ) → q ≤ r → In h r → get_or es' (place c r) None ≡ Some (trailer h r)
  entry_there r le inr' =
      ⊎_elim
      (λ (eq : r ≡ q).
      ap (λ i. get_or es' (place c i) None) eq ∙ entry_here ∙ ap (λ i. Some (trailer h i)) (sym eq))
      (λ (ne : r ≡ q → ⊥).
      let off = place_apart c q r inh.0 (omega arith) (omega (arith, inr'.1)) in
      get_or-set_other es _ _ (Some (trailer h q)) None (λ e. off (sym e)) ∙ di.there r (omega arith) inr')
      (cases_eq r q)

  entry_only : (i : ℕ) (t : Trailer) → get_or es' i None ≡ Some t
      → (r : ℕ) × In h r × (q ≤ r) × (place c r ≡ i) × (t ≡ trailer h r)
  entry_only i t is =
      ⊎_elim
      (λ (eq : i ≡ place c q).
      let was : get_or es' i None ≡ Some (trailer h q) = ap (λ j. get_or es' j None) eq ∙ entry_here in
      (q, inh, omega arith, sym eq, cc))
      (λ (ne : i ≡ place c q → ⊥).
      let (r, inr', le, at, same) = di.only i t (sym (get_or-set_other es _ i (Some (trailer h q)) None ne) ∙ is) in
      (r, inr', omega arith, at, same))
      (cases_eq i (place c q))

  directory_before : Directory es' c q h
  directory_before =
      record {
        size = omega (arith, length-set es (place c q) (Some (trailer h q)), di.size);
        there = entry_there;
        only = entry_only;
      }

-- Numbers of one remainder that are less than c apart are one.
same_number : (c a b : ℕ) → a < b + c → b < a + c → a % c ≡ b % c → a ≡ b
same_number c a b ab ba e =
    let at : place c (suc a) ≡ place c (suc b) = simp unary_clauses e in
    let eq = place_same c (suc a) (suc b) (omega arith) (omega arith) (omega arith) (omega arith) at in
    omega arith

-- The last segment written.
abbrev pub top_of : ℕ → History → ℕ → Option Segment
top_of s h zero = None
top_of s h (suc k) = Some (seg s h k)

-- What segment page j is read as.
abbrev pub Seen : Meaning → History → ℕ → ℕ → Option Segment → Type 0
Seen m h k j None = page m (frames m + j) ≡ None
Seen m h k j (Some a) =
    (g : ℕ) × (g < k) × (k ≤ g + groups m + 1) × (g % (groups m + 1) ≡ j) × (a ≡ seg (groups m) h g)

-- A lit flash that holds the history h, of which k segments describe all but the tail.
module _ (m : Meaning) (p : ℕ) (h : History) (k : ℕ) (low : 2 ≤ groups m) (few : p ≤ 240) (lit : m.lit ≡ true)
    (wr : Written p h) (fr : Framed m.pages (frames m) h) (ds : Described m.pages (groups m) h k) where
  pos : 1 ≤ frames m
  pos = omega arith

  -- The segment pages are read, one by one.
  page_seen : (j : ℕ) → j ≤ groups m → (o : Option Bytes) → page m (frames m + j) ≡ o
      → (r : Option Segment) × (from_page m p j o ≡ Ok r) × Seen m h k j r
  page_seen j le None is = (None, refl, is)
  page_seen j le (Some bs) is =
      let (g, lt, near, at, same) = ds.only j bs le is in
      let found = segment_found p few h wr m low g (omega (arith, ds.low)) j at in (
        Some (seg (groups m) h g),
        ap (λ b. found_in m j (segment_in m p j b)) same ∙ ap (found_in m j) found,
        (g, lt, near, at, refl),
      )

  -- The n segment pages from the j-th on.
  read_from : (n j : ℕ) → j + n ≡ groups m + 1
      → (gs : List (Option Segment)) × (read_segments m p n j ≡ Ok gs) × (length gs ≡ n)
      × ((i : ℕ) → i < n → Seen m h k (j + i) (get_or gs i None))
  read_from zero j all = ([], refl, refl, λ i lt. absurd (omega arith))
  read_from (suc n) j all =
      let (r, is, seen) = page_seen j (omega arith) (page m (frames m + j)) refl in
      let (gs, rest, len, each) = read_from n (j + 1) (omega arith) in
      let here = ap (λ b. cond b (from_page m p j (page m (frames m + j))) (Err (dark_at (frames m + j)))) lit in (
        r ∷ gs,
        ap₂ joined (here ∙ is) rest,
        ap suc len,
        elim [
          | zero ↦ λ lt. subst (λ i. Seen m h k i r) (omega arith) seen
          | suc i ↦ λ lt. subst (λ l. Seen m h k l (get_or gs i None)) (omega arith) (each i (omega arith))
        ],
      )

  pub segments_read : (gs : List (Option Segment))
      × (read_segments m p (groups m + 1) 0 ≡ Ok gs)
      × (length gs ≡ groups m + 1)
      × ((i : ℕ) → i < groups m + 1 → Seen m h k i (get_or gs i None))
  segments_read =
      let (gs, is, len, each) = read_from (groups m + 1) 0 (omega arith) in
      (gs, is, len, λ i lt. subst (λ j. Seen m h k j (get_or gs i None)) (omega arith) (each i lt))

  -- The frame of number q, which is there.
  frame_there : (q : ℕ) (rest : Result Tail Fault) → In h q
      → from_frame m p q (Some (bytes (hist h q))) rest ≡ more (trailer h q) rest
  frame_there q rest inh =
      ap (λ o. sort_of m q o rest) (hist_proper p few h wr q inh)
      ∙ rw (eq-eqb (trailer h q).q q (wr.own q inh))

  -- The place of the number after the last: nothing, or the page that lies a round behind.
  frame_after : (rest : Result Tail Fault) (o : Option Bytes) → page m (place (frames m) (length h + 1)) ≡ o
      → from_frame m p (length h + 1) o rest ≡ ended
  frame_after rest None is = refl
  frame_after rest (Some bs) is =
      let n : ℕ = length h + 1 in
      let (q, inh, near, at, same) = fr.only (place (frames m) n) bs (place_lt (frames m) n pos) is in
      let own = wr.own q inh in
      let not_next = ne_eqb (trailer h q).q n (λ e. omega (arith, inh.1, own, e)) in
      let is_older : older m n (trailer h q) ≡ true =
      and_from _ _ (lt-ltb (trailer h q).q n (omega (arith, inh.1, own)))
      (eq-eqb (place (frames m) (trailer h q).q) (place (frames m) n) (ap (place (frames m)) own ∙ at)) in
      ap (λ b. from_frame m p n (Some b) rest) same
      ∙ ap (λ o. sort_of m n o rest) (hist_proper p few h wr q inh)
      ∙ rw (not_next, is_older)

  -- How the frames from number q on are read, at most n of them.
  abbrev Tails : ℕ → ℕ → ℕ → Type 0
  Tails n q l = read_tail m p n q ≡ Ok (record { trailers = trailers h l q; reads = min (l + 1) n })

  tail_from : (n q l : ℕ) → q + n ≡ 15 * k + 16 → 15 * k + 1 ≤ q → q + l ≡ length h + 1 → Tails n q l
  tail_from zero q l all start is =
      let none : 0 ≡ l = omega (arith, ds.high) in
      let zero_reads : 0 ≡ min (l + 1) 0 = omega arith in
      λ i. Ok (record { trailers = trailers h (none i) q; reads = zero_reads i })
  tail_from (suc n) q zero all start is =
      let at : q ≡ length h + 1 = omega arith in
      let rest = read_tail m p n (q + 1) in
      let end = frame_after rest (page m (place (frames m) (length h + 1))) refl in
      rw lit
      (subst (λ r. from_frame m p r (page m (place (frames m) r)) rest ≡ ended) (sym at) end
      ∙ ap (λ c. Ok (record { trailers = []; reads = c })) (omega arith))
  tail_from (suc n) q (suc l) all start is =
      let inh : In h q = (omega arith, omega arith) in
      let rest = read_tail m p n (q + 1) in
      rw lit
      (ap (λ o. from_frame m p q o rest) (fr.held q inh (omega (arith, ds.high)))
      ∙ frame_there q rest inh
      ∙ ap (more (trailer h q)) (tail_from n (q + 1) l (omega arith) (omega arith) (omega arith))
      ∙ ap (λ c. Ok (record { trailers = trailer h q ∷ trailers h l (q + 1); reads = c })) (omega arith))

  -- The tail has all the numbers after the newest segment's last.
  pub tail_read : read_tail m p 15 (15 * k + 1)
      ≡ Ok (record {
        trailers = trailers h (length h - 15 * k) (15 * k + 1);
        reads = min (length h - 15 * k + 1) 15;
      })
  tail_read = tail_from 15 (15 * k + 1) (length h - 15 * k) (omega arith) (omega arith) (omega (arith, ds.low))

  -- The i-th of the trailers from number q on.
  nth_is : (n q i : ℕ) → i < n → nth (trailers h n q) i ≡ Some (trailer h (q + i))
  nth_is zero q i lt = absurd (omega arith)
  nth_is (suc n) q zero lt = ap (λ r. Some (trailer h r)) (omega arith)
  nth_is (suc n) q (suc i) lt = nth_is n (q + 1) i (omega arith) ∙ ap (λ r. Some (trailer h r)) (omega arith)

  -- The frames after the newest segment.
  abbrev tail : List Trailer
  tail = trailers h (length h - 15 * k) (15 * k + 1)

  -- The segments as they were read.
  module _ (gs : List (Option Segment)) (len : length gs ≡ groups m + 1)
      (each : (i : ℕ) → i < groups m + 1 → Seen m h k i (get_or gs i None)) where
    -- Each of the last segments is found in its place.
    pub seen_there : (g : ℕ) → g < k → k ≤ g + groups m → get_or gs (g % (groups m + 1)) None ≡ Some (seg (groups m) h g)
    seen_there g lt near = go (get_or gs (g % (groups m + 1)) None) (each (g % (groups m + 1)) (mod-lt g (omega arith)))
      where
        go : (o : Option Segment) → Seen m h k (g % (groups m + 1)) o → o ≡ Some (seg (groups m) h g)
        go None is = let there = ds.there g lt near in let z : ◌≡◌ {A = ℕ} 0 1 = cc in absurd (omega arith)
        go (Some a) (i, il, ir, at, is) =
            ap Some (is ∙ ap (seg (groups m) h) (same_number (groups m + 1) i g (omega arith) (omega arith) at))

    -- The newest of them is the last that was written.
    top_from : (j : ℕ) → j ≡ k → (r : Option Segment) → Newest gs r → r ≡ top_of (groups m) h j
    top_from zero is None none = refl
    top_from zero is (Some a) ((i, lt, at), top) =
        let (g, less, near, sits, same) = subst (λ o. Seen m h k i o) at (each i (omega arith)) in absurd (omega arith)
    top_from (suc j) is None none =
        let there = seen_there j (omega arith) (omega arith) in
        let nothing = none (j % (groups m + 1)) in
        let z : ◌≡◌ {A = ℕ} 0 1 = cc in
        absurd (omega arith)
    top_from (suc j) is (Some a) ((i, lt, at), top) =
        let (g, less, near, sits, same) = subst (λ o. Seen m h k i o) at (each i (omega arith)) in
        let high = top (j % (groups m + 1)) (seg (groups m) h j) (seen_there j (omega arith) (omega arith)) in
        let eq : g ≡ j = omega (arith, ap (λ (x : Segment). x.last) same) in
        ap Some (same ∙ ap (seg (groups m) h) eq)

    pub newest_top : newest gs ≡ top_of (groups m) h k
    newest_top = top_from k refl (newest gs) (newest_is gs)

    -- Each live number is described: by the tail, or by the segment of its group.
    by_is : (q : ℕ) → first (frames m) (length h) ≤ q → q ≤ length h
        → described_by m gs (15 * k) tail q ≡ Some (trailer h q)
    by_is q low' top = go (cases_lt (15 * k) q)
      where
        go : (15 * k < q) ⊎ (q ≤ 15 * k) → described_by m gs (15 * k) tail q ≡ Some (trailer h q)
        go (inl lt) =
            rw (lt-ltb (15 * k) q lt)
            (nth_is (length h - 15 * k) (15 * k + 1) (q - 15 * k - 1) (omega arith)
            ∙ ap (λ r. Some (trailer h r)) (omega arith))
        go (inr le) =
            let g : ℕ = (q - 1) / 15 in
            rw (le-ltb (15 * k) q le)
            (ap (of_group q) (seen_there g (omega arith) (omega (arith, ds.low)))
            ∙ rw (eq-eqb (15 * g + 15) (15 * g + 15) refl)
            (nth_is 15 (15 * g + 1) ((q - 1) % 15) (omega arith) ∙ ap (λ r. Some (trailer h r)) (omega arith)))

    -- The directory is made, from its last number down.
    pub gathered : frames m ≤ 210 → (n q : ℕ) → q + n ≡ length h + 1 → first (frames m) (length h) ≤ q
        → (es : List (Option Trailer))
        × (gather m gs (15 * k) (trailers h (length h - 15 * k) (15 * k + 1)) n q ≡ Ok es)
        × Directory es (frames m) q h
    gathered top zero q all lo =
        let empty = empty_directory (frames m) h top in
        (no_entries, refl, subst (λ f. Directory no_entries (frames m) f h) (omega arith) empty)
    gathered top (suc n) q all lo =
        let (es, is, di) = gathered top n (q + 1) (omega arith) (omega arith) in (
          set es (place (frames m) q) (Some (trailer h q)),
          ap₂ (λ o r. placed m o q r) {v = Ok es} (by_is q lo (omega arith)) is,
          directory_before es (frames m) h pos q (omega arith, omega arith) (omega arith) di,
        )
