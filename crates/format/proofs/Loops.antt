-- The fifteen entries of a segment, one after another.
use Rattle.std.proofs.Common.{◌≡◌, ℕ, suc, ◌+◌, ◌-◌, ◌*◌, ◌<◌, Bool, true, false, cond, ◌&&◌, eqb, List, [], ◌∷◌, ◌++◌, Some, None, Option, sym, refl, ap, ◌∙◌, ap₂, arith}
use Rattle.std.proofs.lemmas.List.{append-nil, append_assoc}
use Rattle.medium.specs.Meaning.{Bytes}
use Rattle.rules.specs.declared.trailer.Trailer.{Trailer}
use Rattle.rules.specs.Format.{encode, encode_all, fields, is_proper, described, pushed}
use Rattle.format.specs.Segments.{entry_at, entries_left}

-- Written: one more.
pub all_more : (ts : List Trailer) (t : Trailer) → encode_all (ts ++ (t ∷ [])) ≡ encode_all ts ++ encode t
all_more [] t = append-nil (encode t)
all_more (s ∷ ts) t =
    ap (λ bs. encode s ++ bs) (all_more ts t) ∙ sym (append_assoc (encode s) (encode_all ts) (encode t))

-- Read: what was read before, and what is left.
abbrev pub before : List Trailer → Option (List Trailer) → Option (List Trailer)
before [] o = o
before (t ∷ ts) o = pushed t (before ts o)

pub before_none : (ts : List Trailer) → before ts None ≡ None
before_none [] = refl
before_none (t ∷ ts) = ap (pushed t) (before_none ts)

pub before_all : (ts : List Trailer) → before ts (Some []) ≡ Some ts
before_all [] = refl
before_all (t ∷ ts) = ap (pushed t) (before_all ts)

pub before_more : (ts : List Trailer) (t : Trailer) (o : Option (List Trailer))
    → before (ts ++ (t ∷ [])) o ≡ before ts (pushed t o)
before_more [] t o = refl
before_more (s ∷ ts) t o = ap (pushed s) (before_more ts t o)

-- The i-th entry, and what is left then.
abbrev pub first_of : Option Trailer → Option (List Trailer) → Option (List Trailer)
first_of None o = None
first_of (Some t) o = pushed t o

chosen : (b : Bool) (t : Trailer) (o : Option (List Trailer))
    → cond b (pushed t o) None ≡ first_of (cond b (Some t) None) o
chosen true t o = refl
chosen false t o = refl

pub left_more : (p : ℕ) (bs : Bytes) (q i : ℕ) → i < 15
    → entries_left p bs q i ≡ first_of (entry_at p bs q i) (entries_left p bs q (i + 1))
unfolding entries_left
left_more p bs q i lt =
    let n : ℕ = 15 - (i + 1) in
    let more : 15 - i ≡ suc n = omega arith in
    let o : 16 * i + 16 ≡ 16 * (i + 1) = omega arith in
    let r : q + i + 1 ≡ q + (i + 1) = omega arith in
    let b : Bool = is_proper p bs (16 * i) && eqb (fields bs (16 * i)).q (q + i) in
    ap (λ k. described p bs k (16 * i) (q + i)) more
    ∙ ap₂ (λ a c. cond b (pushed (fields bs (16 * i)) (described p bs n a c)) None) o r
    ∙ chosen b (fields bs (16 * i)) (described p bs n (16 * (i + 1)) (q + (i + 1)))

pub left_none : (p : ℕ) (bs : Bytes) (q : ℕ) → entries_left p bs q 15 ≡ Some []
unfolding entries_left
left_none p bs q = refl
