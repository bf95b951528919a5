-- The frames of the tail, one after another.
use Rattle.std.proofs.Common.{◌≡◌, ℕ, suc, ◌+◌, ◌-◌, ◌<◌, min, Bool, true, false, cond, eqb, List, [], ◌∷◌, ◌++◌, length, Some, None, Ok, Err, Option, Result, sym, refl, ap, ◌∙◌, ap₂, add-zero, arith}
use Rattle.std.proofs.Math.Nat.{add_comm, zero-add, min-eq_left, min-eq_right}
use Rattle.std.proofs.lemmas.List.{length_push}
use Rattle.medium.specs.Meaning.{Page, Meaning, page}
use Rattle.rules.specs.declared.fault.Fault.{Fault}
use Rattle.rules.specs.declared.trailer.Trailer.{Trailer}
use Rattle.rules.specs.Format.{proper}
use Rattle.rules.specs.Queue.{frames, place}
use Rattle.rules.specs.Recovery.{Tail, ended, more, older, sort_of, from_frame, read_tail, foreign_at, dark_at}
use Rattle.recovery.specs.Tails.{sorted, frame_in, one_frame, tail_of, tail_left}

-- One frame, and what is left then.
abbrev pub follow : Result (Option Trailer) Fault → Result Tail Fault → Result Tail Fault
follow (Err e) r = Err e
follow (Ok None) r = ended
follow (Ok (Some t)) r = more t r

module _ (m : Meaning) (p q : ℕ) (rest : Result Tail Fault) where
  sort_step : (o : Option Trailer) → sort_of m q o rest ≡ follow (sorted (frames m) q o) rest
  sort_step None = refl
  sort_step (Some t) = go (eqb t.q q) (older m q t) where
    go : (b o : Bool)
        → cond b (more t rest) (cond o ended (Err (foreign_at (place (frames m) q))))
        ≡ follow (cond b (Ok (Some t)) (cond o (Ok None) (Err (foreign_at (place (frames m) q))))) rest
    go true o = refl
    go false true = refl
    go false false = refl

  frame_step : (l : Bool) (pg : Page)
      → cond l (from_frame m p q pg rest) (Err (dark_at (place (frames m) q)))
      ≡ follow (cond l (frame_in (frames m) p q pg) (Err (dark_at (place (frames m) q)))) rest
  frame_step true None = refl
  frame_step true (Some bs) = sort_step (proper p bs 240)
  frame_step false pg = refl

tail_step : (m : Meaning) (p n q : ℕ) → read_tail m p (suc n) q ≡ follow (one_frame m p q) (read_tail m p n (q + 1))
tail_step m p n q = frame_step m p q (read_tail m p n (q + 1)) m.lit (page m (place (frames m) q))

-- What was read before, and what is left.
abbrev pub ahead : List Trailer → Result Tail Fault → Result Tail Fault
ahead [] r = r
ahead (t ∷ ts) r = more t (ahead ts r)

ahead_err : (ts : List Trailer) (e : Fault) → ahead ts (Err e) ≡ Err e
ahead_err [] e = refl
ahead_err (t ∷ ts) e = ap (more t) (ahead_err ts e)

abbrev pub tail_with : List Trailer → ℕ → Result Tail Fault
tail_with ts n = Ok (record { trailers = ts; reads = n })

ahead_end : (ts : List Trailer) (n : ℕ) → ahead ts (tail_with [] n) ≡ tail_with ts (n + length ts)
ahead_end [] n = ap (tail_with []) (sym (add-zero n))
ahead_end (t ∷ ts) n =
    let one : n + length ts + 1 ≡ n + length (t ∷ ts) = omega arith in
    ap (more t) (ahead_end ts n) ∙ ap (tail_with (t ∷ ts)) one

ahead_more : (ts : List Trailer) (t : Trailer) (r : Result Tail Fault) → ahead (ts ++ (t ∷ [])) r ≡ ahead ts (more t r)
ahead_more [] t r = refl
ahead_more (s ∷ ts) t r = ap (more s) (ahead_more ts t r)

-- The frame of the i-th number, and what is left then; all; none.
left_more : (m : Meaning) (p q i : ℕ) → i < 15
    → tail_left m p q i ≡ follow (one_frame m p (q + i)) (tail_left m p q (i + 1))
unfolding tail_left
left_more m p q i lt =
    let n : ℕ = 15 - (i + 1) in
    let one : 15 - i ≡ suc n = omega arith in
    let on : q + i + 1 ≡ q + (i + 1) = omega arith in
    ap (λ k. read_tail m p k (q + i)) one
    ∙ tail_step m p n (q + i)
    ∙ ap (λ k. follow (one_frame m p (q + i)) (read_tail m p n k)) on

pub left_all : (m : Meaning) (p q : ℕ) → tail_left m p q 0 ≡ read_tail m p 15 q
unfolding tail_left
left_all m p q = ap (read_tail m p 15) (add-zero q)

left_none : (m : Meaning) (p q i : ℕ) → i ≡ 15 → tail_left m p q i ≡ tail_with [] 0
unfolding tail_left
left_none m p q i end = let none : 15 - i ≡ 0 = omega arith in ap (λ k. read_tail m p k (q + i)) none

-- The turns: the frames of ts are read, from that of q on.
module _ (m : Meaning) (p q : ℕ) (ts : List Trailer) (whole : Result Tail Fault)
    (is : whole ≡ ahead ts (tail_left m p q (length ts))) where
  -- The next frame, that of number k, gives r, by a flash that means x, the same.
  module _ (x : Meaning) (k : ℕ) (r : Result (Option Trailer) Fault) (same : x ≡ m) (at : k ≡ q + length ts)
      (lt : length ts < 15) (here : r ≡ one_frame x p k) where
    left : (o : Result (Option Trailer) Fault) → r ≡ o → whole ≡ ahead ts (follow o (tail_left m p q (length ts + 1)))
    left o own =
        is
        ∙ ap (ahead ts) (left_more m p q (length ts) lt)
        ∙ ap (λ y. ahead ts (follow y (tail_left m p q (length ts + 1)))) (sym (here ∙ ap₂ (λ y n. one_frame y p n) same at) ∙ own)

    pub tail_more : (t : Trailer) → r ≡ Ok (Some t)
        → whole ≡ ahead (ts ++ (t ∷ [])) (tail_left m p q (length (ts ++ (t ∷ []))))
    tail_more t own =
        left (Ok (Some t)) own
        ∙ sym (ahead_more ts t (tail_left m p q (length ts + 1)))
        ∙ ap (λ n. ahead (ts ++ (t ∷ [])) (tail_left m p q n)) (sym (length_push ts t))

    pub tail_fails : (e : Fault) → r ≡ Err e → whole ≡ Err e
    tail_fails e own = left (Err e) own ∙ ahead_err ts e

    pub tail_ends : r ≡ Ok None → whole ≡ Ok (tail_of ts)
    tail_ends own =
        let n : 1 + length ts ≡ min (length ts + 1) 15 = add_comm 1 (length ts) ∙ sym (min-eq_left (omega arith)) in
        left (Ok None) own ∙ ahead_end ts 1 ∙ ap (tail_with ts) n

  pub tail_all : length ts ≡ 15 → whole ≡ Ok (tail_of ts)
  tail_all end =
      let n : 0 + length ts ≡ min (length ts + 1) 15 = zero-add (length ts) ∙ end ∙ sym (min-eq_right (omega arith)) in
      is ∙ ap (ahead ts) (left_none m p q (length ts) end) ∙ ahead_end ts 0 ∙ ap (tail_with ts) n
