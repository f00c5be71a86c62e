-- Document 01, 'The day sheet': rows of 102 bytes, a kind in 2 columns and five numbers in 20 each.
use Rattle.std.specs.Prelude.{Option, Some, None, ℕ, ◌+◌, ◌*◌, cond, not, List, [], ◌∷◌, ◌++◌, eqb, length, take, drop}
use Rattle.rows.specs.declared.row.Row.{Row}
use Rattle.columns.specs.Column.{read_column, column, has_room}

abbrev pub newline : ℕ
newline = 10

-- the bytes of a row, without and with its newline
abbrev pub line_bytes : ℕ
line_bytes = 102

abbrev pub row_bytes : ℕ
row_bytes = 103

-- ---- a row that is read
abbrev pub numbers : ℕ → ℕ → ℕ → ℕ → ℕ → ℕ → Row
numbers kind a b c d e = record { kind = kind; a = a; b = b; c = c; d = d; e = e }

-- a reading, and what is made of its number
abbrev pub with : Option ℕ → (ℕ → Option Row) → Option Row
with None k = None
with (Some n) k = k n

-- the number in column i of the five
abbrev pub column_at : List ℕ → ℕ → Option ℕ
column_at bytes i = read_column (take 20 (drop (2 + 20 * i) bytes))

-- any other length or column is unreadable
unfoldable pub read_row : List ℕ → Option Row
read_row bytes =
    cond (not (eqb (length bytes) line_bytes)) None
    (with (read_column (take 2 bytes)) λ kind.
    with (column_at bytes 0) λ a.
    with (column_at bytes 1) λ b.
    with (column_at bytes 2) λ c.
    with (column_at bytes 3) λ d.
    with (column_at bytes 4) λ e.
    Some (numbers kind a b c d e))

-- ---- a row that is written: a number of the same widths each, and a newline
unfoldable pub write_row : ℕ → ℕ → ℕ → ℕ → ℕ → ℕ → List ℕ
write_row kind a b c d e = column 2 kind ++ (column 20 a ++ (column 20 b ++ (column 20 c ++ (column 20 d ++ (column 20 e ++ (newline ∷ []))))))

-- a longer text with such a row at such a place; a text too short as it was
unfoldable pub with_row : List ℕ → ℕ → List ℕ → List ℕ
with_row text at row = cond (has_room text at row_bytes) (take at text ++ (row ++ drop (at + row_bytes) text)) text

-- ---- the rows of an input: a row ends at a newline, or at the end of the input where bytes follow the last newline
-- the bytes of the row that is being read, and those still to come
unfoldable pub rows_from : List ℕ → List ℕ → List (List ℕ)
rows_from [] [] = []
rows_from (b ∷ bs) [] = (b ∷ bs) ∷ []
rows_from begun (byte ∷ bytes) = cond (eqb byte newline) (begun ∷ rows_from [] bytes) (rows_from (begun ++ (byte ∷ [])) bytes)

abbrev pub rows : List ℕ → List (List ℕ)
rows input = rows_from [] input
