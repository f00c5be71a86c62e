-- Demand 3 and document 02 (e) of a day sheet, whatever its bytes: its rows are calls in turn, an accepted opening starts anew, and every other
-- row leaves pool and ring alone. What holds of its points holds of the numbers in the rows that are written, however the input is cut.
use Rattle.std.specs.Prelude.{Option, Some, ℕ, ◌*◌, ◌≤◌, ◌<◌, ◌≡◌, true, ◌&&◌, List, [], ◌++◌, eqb, length, take, drop, get_or}
use Rattle.accounting.specs.Locked.{lock_lp_amount}
use Rattle.receipt.specs.declared.Receipt.{Receipt}
use Rattle.calls.specs.Next.{State}
use Rattle.columns.specs.Column.{read_column}
use Rattle.rows.specs.declared.row.Row.{Row}
use Rattle.rows.specs.Row.{column_at, read_row, rows}
use Rattle.sheet.specs.Sheet.{Sheet, empty_sheet, perform, day_sheet}
use Rattle.sheet.specs.Turns.{receipts_of, is_opening, asks_opening}
use Rattle.stream.specs.Pieces.{finish}
use Rattle.however_cut.specs.HoweverCut.{Cut, fed_all}
use Rattle.shipped.specs.Openings.{HoldsAlong}
use Rattle.shipped.specs.Written.{state_after, row_of, ShowsRows}

-- a receipt is an accepted opening's where its row asks for an opening and is answered 0, and nowhere else
unfoldable pub OpeningsSeen : Type 0
OpeningsSeen = (s : Sheet) (r : Option Row) → let x = (perform s r).receipt in is_opening x ≡ (asks_opening r && eqb x.number 0)

-- ---- the points of an input: point k is after its first k rows
abbrev pub state_at : List ℕ → ℕ → State
state_at input k = state_after empty_sheet (rows input) k

abbrev pub receipts_to : List ℕ → ℕ → List Receipt
receipts_to input k = receipts_of empty_sheet (take k (rows input))

abbrev pub receipts_between : List ℕ → ℕ → ℕ → List Receipt
receipts_between input i j = drop i (receipts_to input j)

-- ---- what is written
-- however the input is cut and whatever room each piece has: what is written once all of it is taken and its end is told
abbrev pub written_in_cuts : List Cut → List ℕ → List ℕ
written_in_cuts cuts input = let f = fed_all empty_sheet [] input cuts in f.written ++ (finish f.sheet f.begun).written

pub record HoldsAllDay (input output : List ℕ) : Type 0 where
  -- what is written is the day sheet of the whole input
  pub whole : output ≡ day_sheet input
  pub holds : HoldsAlong (state_at input) (receipts_to input) (receipts_between input)
  -- each row shows its receipt and the point after it
  pub shows : ShowsRows output empty_sheet (rows input)

unfoldable pub DayTheorem : Type 0
DayTheorem =
    (input : List ℕ) (cuts : List Cut) → (fed_all empty_sheet [] input cuts).taken ≡ length input → HoldsAllDay input (written_in_cuts cuts input)

-- ---- the same of the bytes alone, those that are read and those that are written; rows are counted from 0
-- row k asks for an opening, and the row that is written for it shows 0
pub record Opens (input output : List ℕ) (k : ℕ) : Type 0 where
  pub asks : asks_opening (read_row (get_or (rows input) k [])) ≡ true
  pub shows0 : read_column (take 2 (row_of output k)) ≡ Some 0

-- the numbers in the last three columns of row k that is written
pub record Found (output : List ℕ) (k net0 net1 supply : ℕ) : Type 0 where
  pub in_net0 : column_at (row_of output k) 2 ≡ Some net0
  pub in_net1 : column_at (row_of output k) 3 ≡ Some net1
  pub in_supply : column_at (row_of output k) 4 ≡ Some supply

-- nets a and b with supply l in row i, nets c and d with supply m in row j: the floor in row i; the rise from it to row j where no row after i up
-- to j opens; and where a row up to i opens, a supply of at least 100 and both nets above 0 in row i
pub record InOrder (input output : List ℕ) (i a b l j c d m : ℕ) : Type 0 where
  pub floor : l * l ≤ a * b
  pub rise : ((k : ℕ) → i < k → k ≤ j → Opens input output k → ⊥) → a * b * (m * m) ≤ c * d * (l * l)
  pub locked : (k : ℕ) → k ≤ i → Opens input output k → lock_lp_amount ≤ l
  pub alive : (k : ℕ) → k ≤ i → Opens input output k → (0 < a) × (0 < b)

unfoldable pub PrintedTheorem : Type 0
PrintedTheorem =
    (input : List ℕ) (cuts : List Cut) → (fed_all empty_sheet [] input cuts).taken ≡ length input
    → (i j : ℕ) → i ≤ j → j < length (rows input)
    → (a b l c d m : ℕ) → Found (written_in_cuts cuts input) i a b l → Found (written_in_cuts cuts input) j c d m
    → InOrder input (written_in_cuts cuts input) i a b l j c d m
