-- Copies that agree with a medium serve for it, and go on agreeing.
use Rattle.std.proofs.Common.{◌≡◌, ℕ, ◌<◌, ◌≤◌, Bool, true, false, cond, eqb, not, List, [], ◌∷◌, length, Some, None, Ok, Err, Option, Result, sym, refl, ◌∙◌, ⊎_elim, arith}
use Rattle.std.proofs.lemmas.List.{get_or_past, get_or-set_same, get_or-set_other}
use Rattle.std.specs.List.{All}
use Rattle.std.proofs.lemmas.List.Elements.{All-nil, All-cons, All-head, All-tail, All-take, All-filter, filter_passes}
use Rattle.std.proofs.lemmas.Bool.{cases_lt, eqb-true, eq-eqb, cond_both}
use Rattle.std.proofs.lemmas.Bool.Decides.{nat_tests}
use Rattle.medium.specs.declared.Cause.{Cause}
use Rattle.medium.specs.declared.Cause.TheVariants.{Dark, Outside, Length, Unreadable}
use Rattle.medium.specs.Meaning.{Bytes, Meaning, size, page}
use Rattle.medium.specs.Outcome.{Gives, done, struck}
use Rattle.medium.specs.Rules.{refuses, reads, plainly, filled, written, struck_at, write_unless, write}
use Rattle.medium.proofs.Access.{passed}
use Rattle.layers.specs.declared.copies.Sheet.{Sheet}
use Rattle.layers.specs.declared.copies.Copies.{Copies}
use Rattle.layers.specs.Buffer.{Agrees, Agreed, copy_or_reads}
use Rattle.layers.specs.Copies.{sheet_of, listed, found, others, kept, unless_dark, settled}

-- A medium is lit and has page i with these bytes.
abbrev Has : Meaning → ℕ → Bytes → Type 0
Has m i bs = (m.lit ≡ true) × (page m i ≡ Some bs)

module _ (m : Meaning) (i : ℕ) where
  inside : (bs : Bytes) → page m i ≡ Some bs → i < size m
  inside bs e = ⊎_elim (λ h. h) (λ h. absurd (past h)) (cases_lt i (size m)) where
    past : size m ≤ i → ⊥
    past h = let z : None ≡ Some bs = sym (get_or_past m.pages i None h) ∙ e in grind arith

  reads_whole : (n : ℕ) (bs : Bytes) → Has m i bs → n ≡ 256 → reads m i n ≡ Ok bs
  reads_whole n bs h e = let k = inside bs h.1 in grind (arith, nat_tests)

  reads_has : (n : ℕ) (bs : Bytes) → reads m i n ≡ Ok bs → Has m i bs
  reads_has n bs e = (grind (arith, nat_tests), grind (arith, nat_tests))

  -- If there is a copy, then of page i as the medium has it.
  abbrev Serves : Option Sheet → Type 0
  Serves copy = (s : Sheet) → copy ≡ Some s → Has m i s.bytes

  found_serves : (ss : List Sheet) → All (Agrees m) ss → Serves (found i (listed ss))
  found_serves [] h = λ s e. absurd (grind arith)
  found_serves (t ∷ ss) h = go (eqb t.page i) refl (found_serves ss (All-tail (Agrees m) t ss h)) where
    go : (b : Bool) → eqb t.page i ≡ b → Serves (found i (listed ss)) → Serves (cond b (Some t) (found i (listed ss)))
    go true e rest = λ s is. let k = All-head (Agrees m) t ss h in (k.0, grind (arith, nat_tests))
    go false e rest = rest

  copy_serves : (copy : Option Sheet) (n : ℕ) → Serves copy → copy_or_reads copy m i n ≡ reads m i n
  copy_serves None n f = refl
  copy_serves (Some s) n f =
      cond_both (eqb n 256) (Ok s.bytes) (reads m i n) (λ x. x ≡ reads m i n)
      (λ q. sym (reads_whole n s.bytes (f s refl) (eqb-true n 256 q))) (λ q. refl)

  -- A read finds what the medium has.
  pub finds_reads : (cs : Copies) (n : ℕ) → Agreed m cs → copy_or_reads (found i cs) m i n ≡ reads m i n
  finds_reads cs n h = copy_serves (found i cs) n (found_serves cs.sheets.items h)

unless_dark_agreed : (m : Meaning) (e : Cause) (cs : Copies) → Agreed m cs → Agreed m (unless_dark e cs)
unless_dark_agreed m Dark cs h = All-nil (Agrees m)
unless_dark_agreed m Outside cs h = h
unless_dark_agreed m Length cs h = h
unless_dark_agreed m Unreadable cs h = h

-- Medium t has what m has, but for page i, which it has with these bytes.
module _ (m t : Meaning) (i : ℕ) (bs : Bytes)
    (rest : (k : ℕ) (ds : Bytes) → (k ≡ i → ⊥) → Has m k ds → Has t k ds) (here : Has t i bs) where
  others_agree : (cs : Copies) → Agreed m cs → All (Agrees t) (others i cs)
  others_agree cs h k d lt =
      let other = filter_passes (λ (s : Sheet). not (eqb s.page i)) cs.sheets.items k d lt in
      rest _ _ (λ same. grind (arith, nat_tests)) (All-filter (λ (s : Sheet). not (eqb s.page i)) (Agrees m) cs.sheets.items h k d lt)

  kept_agreed : (cs : Copies) → Agreed m cs → Agreed t (kept (sheet_of i bs) cs)
  kept_agreed cs h =
      All-take (Agrees t) 4 (sheet_of i bs ∷ others i cs)
      (All-cons (Agrees t) (sheet_of i bs) (others i cs) here (others_agree cs h))

module _ (m : Meaning) (i : ℕ) (cs : Copies) (agreed : Agreed m cs) where
  -- After a read of page i into a buffer that held `was`.
  pub agreed_read : (was : Bytes)
      → Agreed m (settled (plainly (reads m i (length was))) i (filled was (reads m i (length was))) cs)
  agreed_read was = by (reads m i (length was)) refl where
    by : (x : Result Bytes Cause) → reads m i (length was) ≡ x → Agreed m (settled (plainly x) i (filled was x) cs)
    by (Ok bs) e =
        let more = kept_agreed m m i bs (λ k ds ne h. h) (reads_has m i (length was) bs e) cs agreed in
        cond_both (eqb (length bs) 256) (kept (sheet_of i bs) cs) cs (Agreed m) (λ _. more) (λ _. agreed)
    by (Err c) e = unless_dark_agreed m c cs agreed

  -- After a write of page i.
  module _ (bs : Bytes) (r : Result (Unit {0}) Cause) (t : Meaning) where
    allowed_written : refuses m i (length bs) ≡ None → (out : Bool)
        → Gives (cond out (struck Dark (struck_at m i bs) (λ w. [])) (done tt (written m i bs) [])) r t
        → Agreed t (settled r i bs cs)
    allowed_written e true h = rw h.0 (All-nil (Agrees t))
    allowed_written e false h =
        let k = passed m.lit (size m) i (length bs) e in
        rw (h.0, h.1, eq-eqb (length bs) 256 k.whole)
        (kept_agreed m (written m i bs) i bs
        (λ j ds ne was. (refl, get_or-set_other m.pages i j (Some bs) None ne ∙ was.1))
        (refl, get_or-set_same m.pages i (Some bs) None k.inside) cs agreed)

    pub agreed_written : Gives (write m i bs) r t → Agreed t (settled r i bs cs)
    agreed_written = by (refuses m i (length bs)) refl where
      by : (o : Option Cause) → refuses m i (length bs) ≡ o
          → Gives (write_unless o m i bs) r t → Agreed t (settled r i bs cs)
      by None e = allowed_written e (eqb m.charge 0)
      by (Some c) e = λ h. rw (h.0, h.1) (unless_dark_agreed m c cs agreed)
