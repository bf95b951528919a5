-- The sixteen trailer bytes of a frame or disk page, and the segment that describes fifteen frames.
use Rattle.std.specs.Prelude.{ℕ, ◌+◌, ◌-◌, ◌*◌, ◌/◌, ◌%◌, Bool, cond, ◌&&◌, List, [], ◌∷◌, ◌++◌, Some, None, Option, ◌==◌, nat_le, nat_lt, slice_index}
use Rattle.medium.specs.Meaning.{Bytes}
use Rattle.rules.specs.declared.trailer.Trailer.{Trailer}

-- The highest sequence number, version and hold number.
abbrev pub most : ℕ
most = 4000000000

-- Fields are unsigned, lowest byte first: as bytes, and as they stand at place i.
abbrev pub le2 : ℕ → Bytes
le2 n = n % 256 ∷ n / 256 % 256 ∷ []

abbrev pub le4 : ℕ → Bytes
le4 n = n % 256 ∷ n / 256 % 256 ∷ n / 65536 % 256 ∷ n / 16777216 % 256 ∷ []

abbrev pub of2 : Bytes → ℕ → ℕ
of2 bs i = slice_index bs i + 256 * slice_index bs (i + 1)

abbrev pub of4 : Bytes → ℕ → ℕ
of4 bs i = slice_index bs i + 256 * slice_index bs (i + 1) + 65536 * slice_index bs (i + 2) + 16777216 * slice_index bs (i + 3)

-- A trailer: number, back pointer, version, page, 1 if dirty, and 1.
unfoldable pub encode : Trailer → Bytes
encode t = le4 t.q ++ (le4 t.back ++ (le4 t.version ++ (le2 t.page ++ (cond t.dirty 1 0 ∷ 1 ∷ []))))

-- The fields of the sixteen bytes at place o, proper or not.
abbrev pub fields : Bytes → ℕ → Trailer
fields bs o =
    record {
      q = of4 bs o;
      back = of4 bs (o + 4);
      version = of4 bs (o + 8);
      page = of2 bs (o + 12);
      dirty = (slice_index bs (o + 14) == 1);
    }

abbrev pub in_range : ℕ → Bool
in_range n = nat_le 1 n && nat_le n most

-- They are a proper trailer for a disk of p pages: number and version in range, the back pointer below the number, the
-- page on the disk, and the last two bytes as a trailer has them.
abbrev pub is_proper : ℕ → Bytes → ℕ → Bool
is_proper p bs o =
    in_range (fields bs o).q
    && (in_range (fields bs o).version
    && (nat_lt (fields bs o).back (fields bs o).q
    && (nat_lt (fields bs o).page p
    && (nat_le (slice_index bs (o + 14)) 1
    && slice_index bs (o + 15) == 1))))

abbrev pub proper : ℕ → Bytes → ℕ → Option Trailer
proper p bs o = cond (is_proper p bs o) (Some (fields bs o)) None

-- A segment: the last of the fifteen numbers that it describes, the front when it was written, and their trailers.
pub record Segment : Type 0 where
  pub last : ℕ
  pub front : ℕ
  pub entries : List Trailer

abbrev pub encode_all : List Trailer → Bytes
encode_all [] = []
encode_all (t ∷ ts) = encode t ++ encode_all ts

-- As a page: the fifteen trailers, then last, front, first, 15, 0 and 2.
unfoldable pub encode_segment : Segment → Bytes
encode_segment g =
    encode_all g.entries
    ++ (le4 g.last ++ (le4 g.front ++ (le4 (g.last - 14) ++ (le2 15 ++ (0 ∷ 2 ∷ [])))))

-- The n trailers from place o on, if they are proper and have the numbers from q on.
abbrev pub pushed : Trailer → Option (List Trailer) → Option (List Trailer)
pushed t None = None
pushed t (Some ts) = Some (t ∷ ts)

abbrev pub described : ℕ → Bytes → ℕ → ℕ → ℕ → Option (List Trailer)
described p bs ℕ.zero o q = Some []
described p bs (ℕ.suc n) o q =
    cond (is_proper p bs o && (fields bs o).q == q)
    (pushed (fields bs o) (described p bs n (o + 16) (q + 1)))
    None
