-- Document 01's example of a day sheet, as it is printed there.
use Rattle.std.specs.Prelude.{ℕ, List, [], ◌∷◌, ◌≡◌}
use Prim.Native.Char.{code}
use Prim.Native.String.{String, [] as noText, ◌∷◌ as ◌before◌}
use Rattle.rows.specs.Row.{newline}
use Rattle.sheet.specs.Sheet.{day_sheet}

-- a text's bytes, and after them others
unfoldable pub bytes_then : String → List ℕ → List ℕ
bytes_then noText rest = rest
bytes_then (c before text) rest = code c ∷ bytes_then text rest

-- each text is a row with its newline
unfoldable pub rows_of : List String → List ℕ
rows_of [] = []
rows_of (text ∷ texts) = bytes_then text (newline ∷ rows_of texts)

unfoldable pub input : List String
input =
    " 0                2500              120000               40000                   0                   0"
    ∷ " 1             1000000             4000000                   0                   0                   0"
    ∷ " 2                   0               10000                   1                 100                   0"
    ∷ []

unfoldable pub output : List String
output =
    " 0                   0                   0                   0                   0                   0"
    ∷ " 0                   0                   0             1000000             4000000             2000000"
    ∷ " 0               10000               39505             1009996             3960495             2000000"
    ∷ []

abbrev pub Example : Type 0
Example = day_sheet (rows_of input) ≡ rows_of output
