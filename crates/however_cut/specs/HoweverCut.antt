-- The rows written for an input in pieces are those written for the whole of it, however it is cut and whatever room each piece has.
use Rattle.std.specs.Prelude.{ℕ, ◌+◌, ◌*◌, ◌≤◌, ◌<◌, ◌≡◌, List, [], ◌∷◌, ◌++◌, length, take, drop}
use Rattle.rows.specs.Row.{row_bytes, rows_from}
use Rattle.sheet.specs.Sheet.{Sheet, empty_sheet, run, day_sheet}
use Rattle.stream.specs.Pieces.{Fed, nothing_taken, feed, finish}

-- ---- any cuts
-- how many of the bytes that are still to be taken a piece is shown, and the room that it has
pub record Cut : Type 0 where
  pub shown : ℕ
  pub room : ℕ

-- one piece, and then the others on what it left
abbrev pub followed : Fed → Fed → Fed
followed f g = record { sheet = g.sheet; begun = g.begun; taken = f.taken + g.taken; written = f.written ++ g.written }

unfoldable pub fed_all : Sheet → List ℕ → List ℕ → List Cut → Fed
fed_all s begun input [] = nothing_taken s begun
fed_all s begun input (c ∷ cs) =
    let f = feed c.room s begun (take c.shown input) in
    followed f (fed_all f.sheet f.begun (drop f.taken input) cs)

-- what was written up to any point, and what the rest of the input writes after it, are the whole
unfoldable pub HoweverCut : Type 0
HoweverCut =
    (input : List ℕ) (cuts : List Cut)
    → let f = fed_all empty_sheet [] input cuts in
    f.written ++ run f.sheet (rows_from f.begun (drop f.taken input)) ≡ day_sheet input

-- once all is taken, only the last row can be left
unfoldable pub AllTaken : Type 0
AllTaken =
    (input : List ℕ) (cuts : List Cut)
    → let f = fed_all empty_sheet [] input cuts in
    f.taken ≡ length input → f.written ++ (finish f.sheet f.begun).written ≡ day_sheet input

-- room for one row suffices for a piece to go on
unfoldable pub GoesOn : Type 0
GoesOn =
    (room : ℕ) (s : Sheet) (begun : List ℕ) (piece : List ℕ)
    → row_bytes ≤ room → 0 < length piece → 0 < (feed room s begun piece).taken

-- ---- pieces with room for all their rows
unfoldable pub written_for : Sheet → List ℕ → List (List ℕ) → List ℕ
written_for s begun [] = (finish s begun).written
written_for s begun (piece ∷ pieces) =
    let f = feed (row_bytes * length piece) s begun piece in
    f.written ++ written_for f.sheet f.begun pieces

unfoldable pub joined : List (List ℕ) → List ℕ
joined [] = []
joined (piece ∷ pieces) = piece ++ joined pieces

unfoldable pub PiecesAreTheWhole : Type 0
PiecesAreTheWhole = (pieces : List (List ℕ)) → written_for empty_sheet [] pieces ≡ day_sheet (joined pieces)
