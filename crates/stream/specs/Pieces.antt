-- Document 01, 'The day sheet', where the input comes in pieces and the output has only so much room: what one piece does.
use Rattle.std.specs.Prelude.{ℕ, ◌+◌, ◌-◌, cond, List, [], ◌∷◌, ◌++◌, eqb, ltb, length, replicate, take, drop}
use Rattle.rows.specs.Row.{newline, row_bytes, read_row}
use Rattle.sheet.specs.Sheet.{Sheet, perform, yielded}

-- of a row that is begun no more bytes are kept than a row that is written has: so many make it unreadable, whatever they are and whatever follows
abbrev pub kept : List ℕ → List ℕ
kept bytes = take row_bytes bytes

-- what a piece did: the sheet after it, the row that it has begun and not ended, how many of its bytes were taken, the rows written
pub record Fed : Type 0 where
  pub sheet : Sheet
  pub begun : List ℕ
  pub taken : ℕ
  pub written : List ℕ

abbrev pub nothing_taken : Sheet → List ℕ → Fed
nothing_taken s begun = record { sheet = s; begun = begun; taken = 0; written = [] }

-- a byte more, and the row that it wrote
abbrev pub ahead : List ℕ → Fed → Fed
ahead row f = record { sheet = f.sheet; begun = f.begun; taken = 1 + f.taken; written = row ++ f.written }

-- byte after byte, as long as there is room for another row: a newline ends the row that is begun, any other byte belongs to it
unfoldable pub feed : ℕ → Sheet → List ℕ → List ℕ → Fed
feed room s begun [] = nothing_taken s begun
feed room s begun (byte ∷ bytes) =
    cond (ltb room row_bytes) (nothing_taken s begun)
    (cond (eqb byte newline)
    (let t = perform s (read_row begun) in ahead (yielded t) (feed (room - row_bytes) t.sheet [] bytes))
    (ahead [] (feed room s (kept (begun ++ (byte ∷ []))) bytes)))

-- ---- the end of the input: where bytes follow the last newline they are the last row
-- the sheet after it, and the row written
pub record Finished : Type 0 where
  pub sheet : Sheet
  pub written : List ℕ

unfoldable pub finish : Sheet → List ℕ → Finished
finish s [] = record { sheet = s; written = [] }
finish s (b ∷ bs) = let t = perform s (read_row (b ∷ bs)) in record { sheet = t.sheet; written = yielded t }

-- ---- the lent memory
-- a row that is begun, in the bytes that hold it: zeros after it
unfoldable pub holding : List ℕ → List ℕ
holding begun = begun ++ replicate (row_bytes - length begun) 0

-- rows at the beginning of the output, what stood there after them
unfoldable pub over : List ℕ → List ℕ → List ℕ
over output written = written ++ drop (length written) output

-- all that a piece leaves: the sheet with its ring, the row that is begun, and the lent bytes
pub record Left : Type 0 where
  pub sheet : Sheet
  pub begun : ℕ
  pub held : List ℕ
  pub taken : ℕ
  pub written : ℕ
  pub output : List ℕ

unfoldable pub left_by : List ℕ → Fed → Left
left_by output f = record {
  sheet = f.sheet;
  begun = length f.begun;
  held = holding f.begun;
  taken = f.taken;
  written = length f.written;
  output = over output f.written;
}

-- all that the end of the input leaves
pub record LeftAtEnd : Type 0 where
  pub sheet : Sheet
  pub written : ℕ
  pub output : List ℕ

unfoldable pub left_at_end : List ℕ → Finished → LeftAtEnd
left_at_end output f = record { sheet = f.sheet; written = length f.written; output = over output f.written }
