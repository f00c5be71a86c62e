-- Document 01, 'The day sheet': numbers in columns, 'decimal, right-justified, at least one digit, blanks before, no zero before a digit,
-- at most 2^64 − 1'.
use Rattle.std.specs.Prelude.{Option, Some, None, ℕ, zero, suc, ◌+◌, ◌*◌, ◌-◌, ◌/◌, ◌%◌, Bool, cond, ◌&&◌, List, [], ◌∷◌, ◌++◌, leb, eqb, length, replicate, take, drop}
use Rattle.refusal.specs.Tests.{past}

abbrev pub blank : ℕ
blank = 32

-- the byte of a digit
abbrev pub digit_byte : ℕ → ℕ
digit_byte d = 48 + d

abbrev pub is_digit : ℕ → Bool
is_digit byte = leb 48 byte && leb byte 57

-- ---- reading
-- digits to the end, added to what stands before them
unfoldable pub read_digits : ℕ → List ℕ → Option ℕ
read_digits value [] = Some value
read_digits value (byte ∷ bytes) = cond (is_digit byte) (read_digits (value * 10 + (byte - 48)) bytes) None

-- at most 2^64 − 1
unfoldable pub in_range : Option ℕ → Option ℕ
in_range None = None
in_range (Some n) = cond (past n) None (Some n)

-- blanks before; at least one digit; no zero before a digit
unfoldable pub read_column : List ℕ → Option ℕ
read_column [] = None
read_column (byte ∷ []) = cond (is_digit byte) (Some (byte - 48)) None
read_column (byte ∷ next ∷ bytes) =
    cond (eqb byte blank) (read_column (next ∷ bytes))
    (cond (eqb byte (digit_byte 0)) None (in_range (read_digits 0 (byte ∷ next ∷ bytes))))

-- ---- writing
-- the digits of a number that has at most so many, blanks before them
unfoldable pub blanks_before : ℕ → ℕ → List ℕ
blanks_before zero n = []
blanks_before (suc width) n = cond (eqb n 0) (replicate (suc width) blank) (blanks_before width (n / 10) ++ (digit_byte (n % 10) ∷ []))

-- a number in a column: 0 is one digit
unfoldable pub column : ℕ → ℕ → List ℕ
column zero n = []
column (suc width) n = blanks_before width (n / 10) ++ (digit_byte (n % 10) ∷ [])

-- ---- a column of a row
-- a row that is not too short for the column
abbrev pub has_room : List ℕ → ℕ → ℕ → Bool
has_room row at width = leb (at + width) (length row)

-- a row with a number in its column of such a width at such a place; a row too short as it was
unfoldable pub with_column : List ℕ → ℕ → ℕ → ℕ → List ℕ
with_column row at width n = cond (has_room row at width) (take at row ++ (column width n ++ drop (at + width) row)) row

-- 'Formatting hands back the very part of the caller's row that it filled; of a row too short for the column, an empty part with nothing
-- written': the bytes of that part
unfoldable pub formatted : List ℕ → ℕ → ℕ → List ℕ
formatted row at n = cond (has_room row at 20) (column 20 n) []

-- where it begins, a block of memory and a byte of it: so many bytes on from the row's own beginning, or there
unfoldable pub placed : List ℕ → ℕ × ℕ → ℕ → ℕ × ℕ
placed row start at = cond (has_room row at 20) (start.0, at + start.1) start
