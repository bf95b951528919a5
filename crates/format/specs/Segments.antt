-- Segments as the code has them, and the parts of one that are read or written at a time.
use Rattle.std.specs.Prelude.{ℕ, ◌+◌, ◌-◌, ◌*◌, ◌/◌, ◌%◌, max, Bool, cond, ◌&&◌, List, [], ◌∷◌, ◌++◌, Some, None, Option, ◌==◌, nat_le, slice_index}
use Rattle.medium.specs.Meaning.{Bytes}
use Rattle.rules.specs.declared.trailer.Trailer.{Trailer}
use Rattle.rules.specs.Format.{Segment, le2, le4, of2, of4, most, fields, is_proper, described}
use Rattle.format.specs.declared.ending.Ending.{Ending}
use Rattle.format.specs.declared.segment.Summary.{Summary}

-- What a summary says, as a segment.
abbrev pub said : Summary → Segment
said s = record { last = s.last; front = s.front; entries = s.entries }

abbrev pub all_said : Option Summary → Option Segment
all_said None = None
all_said (Some s) = Some (said s)

-- The sixteen bytes behind the entries.
abbrev pub ending : ℕ → ℕ → Bytes
ending last front = le4 last ++ (le4 front ++ (le4 (last - 14) ++ (le2 15 ++ (0 ∷ 2 ∷ []))))

-- What sixteen bytes say as such.
abbrev pub ending_in : Bytes → Ending
ending_in bs =
    record {
      last = of4 bs 0;
      front = of4 bs 4;
      first = of4 bs 8;
      count = of2 bs 12;
      zero = slice_index bs 14;
      mark = slice_index bs 15;
    }

-- The tests of `is_segment` for a flash of s groups, in parts: of the last number, of its place, of what agrees with it,
-- of the front; and all.
abbrev pub is_last : ℕ → Bool
is_last n = nat_le 15 n && (nat_le n most && n % 15 == 0)

abbrev pub seated : ℕ → ℕ → ℕ → Bool
seated s j last = 15 * s + (last / 15 - 1) % (s + 1) == 15 * s + j

abbrev pub agrees : Ending → Bool
agrees e = (e.first == e.last - 14) && (e.count == 15 && (e.zero == 0 && e.mark == 2))

abbrev pub front_fits : ℕ → ℕ → ℕ → Bool
front_fits s last front = nat_le (max 1 (last + 2 - 15 * s)) front && nat_le front last

abbrev pub ending_fits : ℕ → ℕ → Ending → Bool
ending_fits s j e = is_last e.last && (seated s j e.last && (agrees e && front_fits s e.last e.front))

-- The i-th entry, if it is proper and has the i-th number from q on.
abbrev pub entry_at : ℕ → Bytes → ℕ → ℕ → Option Trailer
entry_at p bs q i =
    cond (is_proper p bs (16 * i) && (fields bs (16 * i)).q == q + i) (Some (fields bs (16 * i))) None

-- The entries from the i-th to the fifteenth, if all are so.
unfoldable pub entries_left : ℕ → Bytes → ℕ → ℕ → Option (List Trailer)
entries_left p bs q i = described p bs (15 - i) (16 * i) (q + i)

-- `segment_in` over the two parts of a page: the entries, and what stands behind them.
abbrev pub with_entries : Ending → Option (List Trailer) → Option Segment
with_entries e None = None
with_entries e (Some ts) = Some (record { last = e.last; front = e.front; entries = ts })

abbrev pub segment_at : ℕ → ℕ → ℕ → Bytes → Ending → Option Segment
segment_at s p j bs e = cond (ending_fits s j e) (with_entries e (entries_left p bs (e.last - 14) 0)) None
