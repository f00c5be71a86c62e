-- A day sheet by the library, in a caller's memory: any list of pieces, each on record, ring, sheet and held bytes as the call before it
-- left them and with an output of its own, and then the end of the input.
use Rattle.std.specs.Prelude.{ℕ, ◌+◌, ◌≡◌, List, [], ◌∷◌, ◌++◌, length, replicate, take, drop}
use Rattle.oracle.specs.Ring.{ring_words}
use Rattle.words.specs.Words.{pool_length, at}
use Rattle.rows.specs.Row.{row_bytes}
use Rattle.sheet.specs.Sheet.{day_sheet}
use Rattle.cp_swap.specs.DaySheet.{SheetMemory, sheet_memory, fed_on, ended_on}

-- how many of the bytes that are still to be taken a call is shown, and the output that it is lent
pub record Piece : Type 0 where
  pub shown : ℕ
  pub output : List ℕ

abbrev pub fed_next : SheetMemory → List ℕ → Piece → SheetMemory
fed_next m input p = fed_on m.pool m.entries m.sheet m.held (take p.shown input) p.output m.progress

abbrev pub ended_next : SheetMemory → List ℕ → SheetMemory
ended_next m output = ended_on m.pool m.entries m.sheet m.held output m.progress

-- the progress: bytes taken, bytes written
abbrev pub taken_in : SheetMemory → ℕ
taken_in m = at m.progress 0

abbrev pub written_in : SheetMemory → List ℕ
written_in m = take (at m.progress 1) m.output

-- the bytes that all pieces take, and those that they and the end write
unfoldable pub taken_by_pieces : SheetMemory → List ℕ → List Piece → ℕ
taken_by_pieces m input [] = 0
taken_by_pieces m input (p ∷ ps) = let n = fed_next m input p in taken_in n + taken_by_pieces n (drop (taken_in n) input) ps

unfoldable pub written_by_pieces : SheetMemory → List ℕ → List Piece → List ℕ → List ℕ
written_by_pieces m input [] last = written_in (ended_next m last)
written_by_pieces m input (p ∷ ps) last = let n = fed_next m input p in written_in n ++ written_by_pieces n (drop (taken_in n) input) ps last

-- all zeros to begin with
unfoldable pub zero_memory : List ℕ → List ℕ → SheetMemory
zero_memory output progress = sheet_memory 0 (replicate pool_length 0) (replicate ring_words 0) (replicate 6 0) (replicate row_bytes 0) output progress

unfoldable pub DayMemoryTheorem : Type 0
DayMemoryTheorem =
    (input : List ℕ) (pieces : List Piece) (last output progress : List ℕ)
    → taken_by_pieces (zero_memory output progress) input pieces ≡ length input
    → written_by_pieces (zero_memory output progress) input pieces last ≡ day_sheet input
