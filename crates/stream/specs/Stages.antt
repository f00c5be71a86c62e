-- A piece of the input, row after row: what its stages give.
use Rattle.std.specs.Prelude.{ℕ, zero, suc, ◌+◌, ◌-◌, ◌≤◌, ◌≡◌, cond, List, [], ◌∷◌, ◌++◌, eqb, length, take, drop}
use Rattle.rows.specs.Row.{newline, with_row}
use Rattle.oracle.specs.Ring.{Entries}
use Rattle.rates.specs.declared.Rates.{Rates}
use Rattle.memory.specs.Steps.{IsRecord}
use Rattle.sheet.specs.Sheet.{Sheet, Turn, yielded}
use Rattle.sheet.specs.Lent.{sheet_in}
use Rattle.stream.specs.Pieces.{Fed, feed}

-- how many bytes stand before the first newline, or all where there is none
unfoldable pub line_length : List ℕ → ℕ
line_length [] = zero
line_length (byte ∷ bytes) = cond (eqb byte newline) zero (suc (line_length bytes))

-- a row that is answered at a place of the output: the sheet that the memory then holds, which is still a pool's, and the row written
pub record Answered (t : Turn) (output : List ℕ) (at : ℕ) (rates : Rates) (pool : List ℕ) (entries : Entries) (written : List ℕ) : Type 0 where
  pub sheet : sheet_in rates pool entries ≡ t.sheet
  pub is_record : IsRecord pool
  pub row : written ≡ with_row output at (yielded t)

-- so many bytes were taken and rows written; what the other bytes do
abbrev pub ahead_by : ℕ → List ℕ → Fed → Fed
ahead_by n rows f = record { sheet = f.sheet; begun = f.begun; taken = n + f.taken; written = rows ++ f.written }

-- the output, with so many bytes of rows in front and what stood there after them
pub record Fills (before : List ℕ) (written : ℕ) (output : List ℕ) : Type 0 where
  pub long : length output ≡ length before
  pub after : drop written output ≡ drop written before
  pub room : written ≤ length before

-- a piece of which some rows are answered: all that it does, and what its other bytes have still to do
pub record Midway (whole : Fed) (before input : List ℕ) (s : Sheet) (begun : List ℕ) (taken written : ℕ) (output : List ℕ) : Type 0 where
  pub is : whole ≡ ahead_by taken (take written output) (feed (length before - written) s begun (drop taken input))
  pub fills : Fills before written output

-- a piece of which all is done that there was room for
pub record Through (whole : Fed) (before : List ℕ) (s : Sheet) (begun : List ℕ) (taken written : ℕ) (output : List ℕ) : Type 0 where
  pub is : whole ≡ record { sheet = s; begun = begun; taken = taken; written = take written output }
  pub fills : Fills before written output
