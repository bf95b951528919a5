-- The RAM frames: a card and a body for each, and the order in which they were last taken.
use Rattle.std.specs.Prelude.{ℕ, zero, suc, ◌+◌, Bool, true, false, cond, ◌&&◌, List, [], ◌∷◌, ◌++◌, length, take, drop, replicate, Some, None, Option, ◌==◌, nat_lt, slice_index_or, slice_set}
use Rattle.medium.specs.Meaning.{Bytes}
use Rattle.rules.specs.declared.table.Card.{Card}
use Rattle.rules.specs.Ranks.{highest, found_at}

-- There is memory for sixteen frames, of which `count` are in use: the cards past these stay empty. `recency` names all
-- sixteen, the one last taken first.
pub record Ram : Type 0 where
  pub count : ℕ
  pub cards : List Card
  pub bodies : List Bytes
  pub recency : List ℕ

-- A frame without a page, and the body of a page that was never written.
abbrev pub empty : Card
empty = record { page = None; version = 0; dirty = false; fdirty = false; hold = 0 }

abbrev pub blank : Bytes
blank = replicate 240 0

abbrev pub numbers : ℕ → ℕ → List ℕ
numbers zero i = []
numbers (suc n) i = i ∷ numbers n (i + 1)

unfoldable pub no_cards : List Card
no_cards = replicate 16 empty

unfoldable pub no_bodies : List Bytes
no_bodies = replicate 16 blank

unfoldable pub all_frames : List ℕ
all_frames = numbers 16 0

-- RAM with b frames in use, all empty.
abbrev pub fresh : ℕ → Ram
fresh b = record { count = b; cards = no_cards; bodies = no_bodies; recency = all_frames }

abbrev pub card_at : Ram → ℕ → Card
card_at m f = slice_index_or m.cards f empty

abbrev pub body_at : Ram → ℕ → Bytes
body_at m f = slice_index_or m.bodies f blank

abbrev pub with_card : Ram → ℕ → Card → Ram
with_card m f c = record { count = m.count; cards = slice_set m.cards f c; bodies = m.bodies; recency = m.recency }

abbrev pub with_frame : Ram → ℕ → Card → Bytes → Ram
with_frame m f c b =
    record { count = m.count; cards = slice_set m.cards f c; bodies = slice_set m.bodies f b; recency = m.recency }

-- Frame f moves to the head of the list.
abbrev pub without : ℕ → List ℕ → List ℕ
without f [] = []
without f (x ∷ xs) = cond (x == f) (without f xs) (x ∷ without f xs)

abbrev pub to_head : Ram → ℕ → Ram
to_head m f =
    record { count = m.count; cards = m.cards; bodies = m.bodies; recency = f ∷ without f m.recency }

-- The frame that has page p.
abbrev pub in_ram : Ram → ℕ → Option ℕ
in_ram m p = found_at (highest (λ c. c.page) (λ c. c.version) p m.cards)

-- The last frame in use of a list that nobody holds.
abbrev pub or_else : Option ℕ → Option ℕ → Option ℕ
or_else (Some f) g = Some f
or_else None g = g

abbrev pub is_free : Ram → ℕ → Bool
is_free m f = nat_lt f m.count && (card_at m f).hold == 0

abbrev pub last_free : Ram → List ℕ → Option ℕ
last_free m [] = None
last_free m (f ∷ fs) = or_else (last_free m fs) (cond (is_free m f) (Some f) None)

-- Whether frame f is held under number n.
abbrev pub is_held : Ram → ℕ → ℕ → Bool
is_held m f n = nat_lt f m.count && (nat_lt 0 n && (card_at m f).hold == n)

-- A card held under number n, or let go by 0; changed by a write; saved to the flash.
abbrev pub held_card : Card → ℕ → Card
held_card c n = record { page = c.page; version = c.version; dirty = c.dirty; fdirty = c.fdirty; hold = n }

abbrev pub changed : Card → Card
changed c = record { page = c.page; version = c.version + 1; dirty = true; fdirty = true; hold = c.hold }

abbrev pub cleaned : Card → Card
cleaned c = record { page = c.page; version = c.version; dirty = c.dirty; fdirty = false; hold = c.hold }

-- Page p, just fetched.
abbrev pub fetched : ℕ → ℕ → Bool → Card
fetched p v d = record { page = Some p; version = v; dirty = d; fdirty = false; hold = 0 }

-- The bytes bs at offset o of a body.
abbrev pub put : Bytes → ℕ → Bytes → Bytes
put body o bs = take o body ++ (bs ++ drop (o + length bs) body)
