-- What is known of one number.
use Rattle.std.proofs.Common.{◌≡◌, ℕ, zero, suc, ◌+◌, ◌-◌, ◌*◌, ◌/◌, ◌%◌, ◌<◌, ◌≤◌, Bor, cond, List, [], ◌∷◌, map, length, get_or, Some, None, Option, sym, refl, ap, ◌∙◌, ap₂, arith}
use Rattle.std.specs.Slice.{IsItemAt}
use Rattle.std.specs.Option.{option_copied}
use Rattle.std.proofs.Math.ListN.{get_or-map}
use Rattle.std.proofs.lemmas.Bool.{eq-eqb, lt-ltb}
use Rattle.rules.specs.declared.trailer.Trailer.{Trailer}
use Rattle.rules.specs.Format.{Segment}
use Rattle.rules.specs.Recovery.{nth, of_group}
use Rattle.format.specs.declared.segment.Summary.{Summary}
use Rattle.format.specs.Segments.{said, all_said}
use Rattle.recovery.specs.Directory.{described_in}

nth_in : (ts : List Trailer) (i : ℕ) (d : Trailer) → i < length ts → Some (get_or ts i d) ≡ nth ts i
nth_in [] i d lt = absurd (omega arith)
nth_in (t ∷ ts) zero d lt = refl
nth_in (t ∷ ts) (suc i) d lt = nth_in ts i d (omega arith)

nth_past : (ts : List Trailer) (i : ℕ) → length ts ≤ i → None ≡ nth ts i
nth_past [] i le = refl
nth_past (t ∷ ts) zero le = absurd (omega arith)
nth_past (t ∷ ts) (suc i) le = nth_past ts i (omega arith)

-- What `get` finds.
nth_got : (ts : List Trailer) (i : ℕ) (r : Option (Bor Trailer)) → IsItemAt ts i r → option_copied r ≡ nth ts i
nth_got ts i None got = nth_past ts i got.3
nth_got ts i (Some t) got = ap Some got.1 ∙ nth_in ts i t.now got.3.0

-- In the tail.
pub tail_has : (s : ℕ) (gs : List (Option Segment)) (b : ℕ) (ts us : List Trailer) (q a : ℕ) (r : Option (Bor Trailer))
    → b < q → IsItemAt us (q - a - 1) r → us ≡ ts → a ≡ b → option_copied r ≡ described_in s gs b ts q
tail_has s gs b ts us q a r lt got own at =
    nth_got us (q - a - 1) r got
    ∙ ap₂ (λ xs n. nth xs (q - n - 1)) own at
    ∙ sym
    (ap (λ t. cond t (nth ts (q - b - 1)) (of_group q (get_or gs ((q - 1) / 15 % (s + 1)) None))) (lt-ltb b q lt))

-- In the segment of its group.
pub group_in : (s : Summary) (q b : ℕ) (d : Trailer) → b ≡ q - 1 → s.last ≡ 15 * (b / 15) + 15
    → length s.entries ≡ 15 → Some (get_or s.entries (b % 15) d) ≡ of_group q (Some (said s))
group_in s q b d is own long =
    let lt : b % 15 < length s.entries = omega arith in
    let end : s.last ≡ 15 * ((q - 1) / 15) + 15 = own ∙ ap (λ n. 15 * (n / 15) + 15) is in
    nth_in s.entries (b % 15) d lt
    ∙ ap (λ n. nth s.entries (n % 15)) is
    ∙ sym (ap (λ t. cond t (nth s.entries ((q - 1) % 15)) None) (eq-eqb s.last _ end))

-- By the segment in the place of its group.
pub seat_is : (s : ℕ) (os : List (Option Summary)) (q k : ℕ) (o : Option Trailer) (g : Summary)
    → k ≡ (q - 1) / 15 % (s + 1) → get_or os k None ≡ Some g → o ≡ of_group q (Some (said g))
    → o ≡ of_group q (get_or (map all_said os) ((q - 1) / 15 % (s + 1)) None)
seat_is s os q k o g at is own =
    own
    ∙ ap (λ h. of_group q (all_said h)) (sym is)
    ∙ ap (of_group q) (sym (get_or-map all_said os k None))
    ∙ ap (λ n. of_group q (get_or (map all_said os) n None)) at
