-- n places hold at most n numbers, so that some tick is always free.
use Rattle.std.proofs.Common.{◌≡◌, ℕ, zero, suc, ◌-◌, ◌<◌, ◌≤◌, cond, eqb, sym, ap, ◌∙◌, ⊎_elim, arith}
use Rattle.std.proofs.lemmas.Bool.{cases_eq, cases_lt, eq-eqb, ne_eqb, cond-true, cond-false}

-- Some place below n holds t.
abbrev Hits : (ℕ → ℕ) → ℕ → ℕ → Type 0
Hits f n t = (s : ℕ) × (s < n) × (f s ≡ t)

-- f with v in the place of m.
abbrev moved : (ℕ → ℕ) → ℕ → ℕ → ℕ → ℕ
moved f m v s = cond (eqb (f s) m) v (f s)

-- If the places below n hold each number from 1 to m, then m is at most n.
pub at_most : (n m : ℕ) (f : ℕ → ℕ) → ((t : ℕ) → 1 ≤ t → t ≤ m → Hits f n t) → m ≤ n
at_most zero m f all =
    ⊎_elim
    (λ (h : 0 < m). let w = all 1 (omega arith) (omega arith) in omega (arith, w.1))
    (λ h. omega arith)
    (cases_lt 0 m)
at_most (suc n) m f all =
    ⊎_elim
    (λ (h : 0 < m).
    let last = all m (omega arith) (omega arith) in
    let ih = at_most n (m - 1) (moved f m (f n)) (λ t lo hi. by t lo hi (all t lo (omega arith)) last) in
    omega arith)
    (λ h. omega arith)
    (cases_lt 0 m)
  where
    by : (t : ℕ) → 1 ≤ t → t ≤ m - 1 → Hits f (suc n) t → Hits f (suc n) m → Hits (moved f m (f n)) n t
    by t lo hi a b =
        ⊎_elim
        (λ (e : f n ≡ t).
        -- the place of m is not the last, and holds t now
        let ne : b.0 ≡ n → ⊥ = λ z. omega (arith, ap f z, b.2, e) in
        (b.0, omega (arith, b.1), cond-true (eqb (f b.0) m) (f n) (f b.0) (eq-eqb (f b.0) m b.2) ∙ e))
        (λ (ne : f n ≡ t → ⊥).
        let other : a.0 ≡ n → ⊥ = λ z. ne (ap f (sym z) ∙ a.2) in
        let apart : f a.0 ≡ m → ⊥ = λ z. omega (arith, a.2, z) in
        (a.0, omega (arith, a.1), cond-false (eqb (f a.0) m) (f n) (f a.0) (ne_eqb (f a.0) m apart) ∙ a.2))
        (cases_eq (f n) t)
