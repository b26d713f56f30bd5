-- Rows of settings: a row is a type of one byte and a setting of two.
use Rattle.std.specs.Prelude.{◌≡◌, ℕ, zero, suc, ◌+◌, ◌-◌, ◌*◌, ◌≤◌, Bool, cond, ◌&&◌, List, ◌∷◌, length, take, drop, Some, None, Option, ◌==◌, nat_le, slice_index, slice_index_or}
use Rattle.std.specs.List.{flat_map}
use Rattle.kinds.specs.Kinds.{KindFacts}
use Rattle.terms.specs.Places.{each_place}
use Rattle.terms.specs.declared.Row.{Row}
use Rattle.mlan.specs.Frame.{Piece}
use Rattle.mlan.specs.Numbers.{two, two_at}

abbrev pub row_bytes : Row → List ℕ
row_bytes r = r.material ∷ two r.setting

abbrev pub rows_bytes : List Row → List ℕ
rows_bytes rows = flat_map row_bytes rows

-- a part that can hold twelve rows: 36 bytes, somewhere in a burst
abbrev pub is_whole : Piece → Bool
is_whole rows = length rows.bytes == 36 && nat_le rows.at 64

-- row p, from 1 to 12, of such a part: three bytes, 3 (p - 1) bytes into the part; in a settings command, which has its rows at byte 2, they begin at byte 3 p - 1
abbrev pub row_piece : Piece → ℕ → Piece
row_piece rows p = record { at = rows.at + 3 * (p - 1); bytes = take 3 (drop (3 * (p - 1)) rows.bytes) }

abbrev pub row_found : Piece → ℕ → Option Piece
row_found rows p = cond (is_whole rows && (nat_le 1 p && nat_le p 12)) (Some (row_piece rows p)) None

-- a kind's row that holds a setting has a type up to its greatest, and a setting of 0 to 999; any other row is zero
abbrev pub greatest_type : KindFacts → ℕ → ℕ
greatest_type k p = cond (k.holds p) k.materials 0

abbrev pub greatest_setting : KindFacts → ℕ → ℕ
greatest_setting k p = cond (k.holds p) 999 0

-- the first byte of the first field at fault in the three bytes of row p; other than three bytes are at fault at their first
abbrev pub row_fault : KindFacts → ℕ → Piece → Option ℕ
row_fault k p row =
    cond (length row.bytes == 3)
    (cond (nat_le (slice_index row.bytes 0) (greatest_type k p))
    (cond (nat_le (two_at row.bytes 1) (greatest_setting k p)) None (Some (row.at + 1)))
    (Some row.at))
    (Some row.at)

abbrev pub found_fault : KindFacts → ℕ → Piece → Option Piece → Option ℕ
found_fault k p rows None = Some rows.at
found_fault k p rows (Some row) = row_fault k p row

abbrev pub or_else : Option ℕ → Option ℕ → Option ℕ
or_else None next = next
or_else (Some byte) next = Some byte

-- the first fault of n rows from row p on, and of all twelve
unfoldable pub faults_from : KindFacts → Piece → ℕ → ℕ → Option ℕ
faults_from k rows p zero = None
faults_from k rows p (suc n) = or_else (found_fault k p rows (row_found rows p)) (faults_from k rows (p + 1) n)

abbrev pub rows_fault : KindFacts → Piece → Option ℕ
rows_fault k rows = faults_from k rows 1 12

abbrev pub zero_row : Row
zero_row = record { material = 0; setting = 0 }

-- the row that three bytes say
abbrev pub row_of : Option Piece → Row
row_of None = zero_row
row_of (Some row) = cond (length row.bytes == 3) (record { material = slice_index row.bytes 0; setting = two_at row.bytes 1 }) zero_row

-- the twelve rows of a part
abbrev pub row_at : Piece → ℕ → Row
row_at rows p = row_of (row_found rows p)

unfoldable pub rows_in : Piece → List Row
rows_in rows = each_place (row_at rows)

-- twelve rows that are all the kind's
pub record RowsPass (k : KindFacts) (rows : List Row) : Type 0 where
  pub twelve : length rows ≡ 12
  pub types : (p : ℕ) → 1 ≤ p → p ≤ 12 → (slice_index_or rows (p - 1) zero_row).material ≤ greatest_type k p
  pub settings : (p : ℕ) → 1 ≤ p → p ≤ 12 → (slice_index_or rows (p - 1) zero_row).setting ≤ greatest_setting k p
