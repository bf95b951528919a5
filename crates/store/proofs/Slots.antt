-- The frames as cards and bodies.
use Rattle.std.proofs.Common.{◌≡◌, ℕ, ◌+◌, ◌<◌, Bool, true, false, cond, List, [], ◌∷◌, length, map, nat_lt, get_or, set, Some, None, Option, sym, refl, ap, ◌∙◌, subst}
use Rattle.std.proofs.lemmas.List.{map-set, set-get_or, get_or-map}
use Rattle.medium.specs.Meaning.{Bytes}
use Rattle.rules.specs.declared.table.Card.{Card}
use Rattle.rules.specs.Ram.{Ram, empty, blank, card_at, body_at, with_card, with_frame}
use Rattle.rules.specs.Ranks.{names, better, found, highest, found_at}
use Rattle.store.specs.declared.slot.Slot.{Slot}

abbrev pub cards : List Slot → List Card
cards xs = map (λ (x : Slot). x.card) xs

abbrev pub bodies : List Slot → List Bytes
bodies xs = map (λ (x : Slot). x.body) xs

new_card : (xs : List Slot) (f : ℕ) (s : Slot) → cards (set xs f s) ≡ set (cards xs) f s.card
new_card xs f s = map-set (λ (x : Slot). x.card) xs f s

new_body : (xs : List Slot) (f : ℕ) (s : Slot) → bodies (set xs f s) ≡ set (bodies xs) f s.body
new_body xs f s = map-set (λ (x : Slot). x.body) xs f s

module _ (n : ℕ) (r : List ℕ) (xs : List Slot) (g f : ℕ) (is : g ≡ f) where
  abbrev ram : List Slot → Ram
  ram ys = record { count = n; cards = cards ys; bodies = bodies ys; recency = r }

  module _ (d : Slot) (within : g < length xs) where
    pub own_card : (get_or xs g d).card ≡ card_at (ram xs) f
    own_card =
        sym (get_or-map (λ (x : Slot). x.card) xs g d empty within) ∙ ap (λ i. get_or (cards xs) i empty) is

    pub own_body : (get_or xs g d).body ≡ body_at (ram xs) f
    own_body =
        sym (get_or-map (λ (x : Slot). x.body) xs g d blank within) ∙ ap (λ i. get_or (bodies xs) i blank) is

  pub slot_put : (s : Slot) → ram (set xs g s) ≡ with_frame (ram xs) f s.card s.body
  slot_put s =
      subst (λ (i : ℕ). ram (set xs g s) ≡ with_frame (ram xs) i s.card s.body) is
      (λ i. record { count = n; cards = new_card xs g s i; bodies = new_body xs g s i; recency = r })

  -- A new card leaves the bodies.
  pub card_put : (d : Slot) (k : Card) → g < length xs
      → ram (set xs g (record { card = k; body = (get_or xs g d).body })) ≡ with_card (ram xs) f k
  card_put d k within =
      let s : Slot = record { card = k; body = (get_or xs g d).body } in
      let same : bodies (set xs g s) ≡ bodies xs =
      new_body xs g s ∙ ap (set (bodies xs) g) (sym (get_or-map (λ (x : Slot). x.body) xs g d blank within)) ∙ set-get_or (bodies xs) g blank in
      subst (λ (i : ℕ). ram (set xs g s) ≡ with_card (ram xs) i k) is
      (λ i. record { count = n; cards = new_card xs g s i; bodies = same i; recency = r })

-- The search among the frames is that among their cards.
module _ {X Y : Type 0} (h : X → Y) (page : Y → Option ℕ) (rank : Y → ℕ) (p : ℕ) where
  abbrev mapped : Option (ℕ × X) → Option (ℕ × Y)
  mapped None = None
  mapped (Some (i, x)) = Some (i, h x)

  better_so : (i : ℕ) (x : X) (o : Option (ℕ × X))
      → better page rank p i (h x) (mapped o) ≡ mapped (better (λ x. page (h x)) (λ x. rank (h x)) p i x o)
  better_so i x None = refl
  better_so i x (Some (j, y)) = go (nat_lt (rank (h x)) (rank (h y)))
    where
      go : (b : Bool) → cond b (Some (j, h y)) (Some (i, h x)) ≡ mapped (cond b (Some (j, y)) (Some (i, x)))
      go true = refl
      go false = refl

  found_so : (i : ℕ) (xs : List X)
      → found page rank p i (map h xs) ≡ mapped (found (λ x. page (h x)) (λ x. rank (h x)) p i xs)
  found_so i [] = refl
  found_so i (x ∷ xs) =
      go (names (page (h x)) p) (found (λ x. page (h x)) (λ x. rank (h x)) p (i + 1) xs) (found_so (i + 1) xs)
    where
      go : (b : Bool) (o : Option (ℕ × X)) → found page rank p (i + 1) (map h xs) ≡ mapped o
          → cond b (better page rank p i (h x) (found page rank p (i + 1) (map h xs)))
          (found page rank p (i + 1) (map h xs))
          ≡ mapped (cond b (better (λ x. page (h x)) (λ x. rank (h x)) p i x o) o)
      go true o e = ap (better page rank p i (h x)) e ∙ better_so i x o
      go false o e = e

  same_place : (o : Option (ℕ × X)) → found_at (mapped o) ≡ found_at o
  same_place None = refl
  same_place (Some (i, x)) = refl

  pub place_so : (xs : List X)
      → found_at (highest page rank p (map h xs)) ≡ found_at (highest (λ x. page (h x)) (λ x. rank (h x)) p xs)
  place_so xs = ap found_at (found_so 0 xs) ∙ same_place (found (λ x. page (h x)) (λ x. rank (h x)) p 0 xs)
