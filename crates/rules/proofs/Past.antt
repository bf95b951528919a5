-- The history as it grows, the places of its numbers, and lists of pages of which one is set.
use Rattle.std.proofs.Common.{◌≡◌, ℕ, ◌+◌, ◌-◌, ◌*◌, ◌/◌, ◌%◌, ◌<◌, ◌≤◌, ◌≢◌, ◌⊎◌, List, [], ◌∷◌, ◌++◌, length, get_or, set, Some, None, Option, sym, ap, ◌∙◌, subst, inl, inr, mul-le-mul_right, mod-lt, add-mul, one-mul, div-add-mod', arith}
use native.Mathlib.Nat.{add-mod_right}
use Rattle.std.proofs.lemmas.Bool.{cases_lt, cases_eq}
use Rattle.std.proofs.lemmas.List.{get_or_push, get_or_append_left, length_push, get_or-set_same, get_or-set_other}
use Rattle.rules.specs.Queue.{place}
use Rattle.rules.proofs.Invariant.{Page, History, no_page, bytes, hist, trailer, whole, In}

-- The history h with one more page e: the numbers of h keep their pages, and length h + 1 is the number of e.
abbrev pub grown : History → Page → History
grown h e = h ++ (e ∷ [])

pub length_grown : (h : History) (e : Page) → length (grown h e) ≡ length h + 1
length_grown h e = length_push h e

pub hist_old : (h : History) (e : Page) (q : ℕ) → In h q → hist (grown h e) q ≡ hist h q
unfolding hist
hist_old h e q i = get_or_append_left h (e ∷ []) no_page (q - 1) (omega arith)

pub hist_new : (h : History) (e : Page) → hist (grown h e) (length h + 1) ≡ e
unfolding hist
hist_new h e = get_or_push h e no_page (length h + 1 - 1) (omega arith)

pub trailer_old : (h : History) (e : Page) (q : ℕ) → In h q → trailer (grown h e) q ≡ trailer h q
trailer_old h e q i = ap (λ (x : Page). x.trailer) (hist_old h e q i)

pub trailer_new : (h : History) (e : Page) → trailer (grown h e) (length h + 1) ≡ e.trailer
trailer_new h e = ap (λ (x : Page). x.trailer) (hist_new h e)

pub whole_old : (h : History) (e : Page) (q : ℕ) → In h q → whole (grown h e) q ≡ whole h q
whole_old h e q i = ap (λ x. Some (bytes x)) (hist_old h e q i)

pub whole_new : (h : History) (e : Page) → whole (grown h e) (length h + 1) ≡ Some (bytes e)
whole_new h e = ap (λ x. Some (bytes x)) (hist_new h e)

pub in_old : (h : History) (e : Page) (q : ℕ) → In h q → In (grown h e) q
in_old h e q i = let n = length_grown h e in omega arith

pub in_new : (h : History) (e : Page) → In (grown h e) (length h + 1)
in_new h e = let n = length_grown h e in omega arith

pub in_grown : (h : History) (e : Page) (q : ℕ) → In (grown h e) q → (In h q) ⊎ (q ≡ length h + 1)
in_grown h e q i =
    let n = length_grown h e in
    elim (cases_eq q (length h + 1)) [ inl eq ↦ inr eq | inr ne ↦ inl (omega arith) ]

-- Two numbers less than c apart have different remainders.
pub apart : (c a b : ℕ) → a < b → b < a + c → a % c ≢ b % c
apart c a b lt near e =
    let ea = div-add-mod' a c in
    let eb = div-add-mod' b c in
    elim (cases_lt (a / c) (b / c)) [
      | inl gt ↦
          let m : (a / c + 1) * c ≤ b / c * c = mul-le-mul_right c (omega arith) in
          omega (arith, add-mul (a / c) 1 c, one-mul c)
      | inr le ↦ let m = mul-le-mul_right c le in omega arith
    ]

-- Numbers less than c apart have different places among c frames, numbers c apart the same place.
pub place_apart : (c q r : ℕ) → 1 ≤ q → q < r → r < q + c → place c q ≢ place c r
place_apart c q r one lt near = apart c (q - 1) (r - 1) (omega arith) (omega arith)

pub place_same : (c q r : ℕ) → 1 ≤ q → 1 ≤ r → q < r + c → r < q + c → place c q ≡ place c r → q ≡ r
place_same c q r qo ro qr rq e =
    elim (cases_eq q r) [
      | inl is ↦ is
      | inr ne ↦
          elim (cases_lt q r) [
            | inl lt ↦ absurd (place_apart c q r qo lt rq e)
            | inr ge ↦ absurd (place_apart c r q ro (omega arith) qr (sym e))
          ]
    ]

pub place_wrap : (c q r : ℕ) → 1 ≤ q → r ≡ q + c → place c r ≡ place c q
place_wrap c q r one e =
    let is : r - 1 ≡ (q - 1) + c = omega arith in
    ap (λ n. n % c) is ∙ add-mod_right (q - 1) c

pub place_lt : (c q : ℕ) → 1 ≤ c → place c q < c
place_lt c q pos = mod-lt (q - 1) pos

-- What holds of each number of h, and of the new page, holds of each number.
pub each : (h : History) (e : Page) (P : ℕ → Page → Type 0)
    → ((q : ℕ) → In h q → P q (hist h q)) → P (length h + 1) e
    → (q : ℕ) → In (grown h e) q → P q (hist (grown h e) q)
each h e P before here q i =
    elim (in_grown h e q i) [
      | inl old ↦ subst (λ x. P q x) (sym (hist_old h e q old)) (before q old)
      | inr new ↦
          subst (λ k. P k (hist (grown h e) k)) (sym new)
          (subst (λ x. P (length h + 1) x) (sym (hist_new h e)) here)
    ]

-- A list of which place i was set to v: what place j has, where it is i, and where it has something.
pub set_at : {A : Type 0} (xs : List (Option A)) (i j : ℕ) (v : Option A) → i < length xs → j ≡ i
    → get_or (set xs i v) j None ≡ v
set_at xs i j v lt eq = ap (λ k. get_or (set xs i v) k None) eq ∙ get_or-set_same xs i v None lt

pub set_some : {A : Type 0} (xs : List (Option A)) (i j : ℕ) (v : Option A) (a : A) → i < length xs
    → get_or (set xs i v) j None ≡ Some a
    → ((j ≡ i) × (v ≡ Some a)) ⊎ ((j ≢ i) × (get_or xs j None ≡ Some a))
set_some xs i j v a lt is =
    elim (cases_eq j i) [
      | inl eq ↦ inl (eq, sym (set_at xs i j v lt eq) ∙ is)
      | inr ne ↦ inr (ne, sym (get_or-set_other xs i j v None ne) ∙ is)
    ]

-- The same of a place that was made unreadable.
pub set_none : {A : Type 0} (xs : List (Option A)) (i j : ℕ) (a : A) → i < length xs
    → get_or (set xs i None) j None ≡ Some a → (j ≢ i) × (get_or xs j None ≡ Some a)
set_none xs i j a lt is =
    elim (set_some xs i j None a lt is) [
      | inl (eq, none) ↦ let z : ◌≡◌ {A = ℕ} 0 1 = cc in absurd (omega arith)
      | inr other ↦ other
    ]
