-- What is written for rows, read back from its bytes.
use Rattle.std.specs.Prelude.{Some, ℕ, suc, ◌*◌, ◌<◌, ◌≡◌, List, [], length, take, drop, get_or}
use Rattle.receipt.specs.declared.Receipt.{Receipt}
use Rattle.pool.specs.State.{net0, net1}
use Rattle.calls.specs.Next.{State}
use Rattle.columns.specs.Column.{read_column}
use Rattle.rows.specs.Row.{line_bytes, row_bytes, column_at, read_row}
use Rattle.sheet.specs.Sheet.{Sheet, perform, first_amount, second_amount}
use Rattle.sheet.specs.Turns.{sheet_after, state_in}

-- the point after the first k rows, and the receipt of row k, counted from 0
abbrev pub state_after : Sheet → List (List ℕ) → ℕ → State
state_after s rs k = state_in (sheet_after s (take k rs))

abbrev pub row_receipt : Sheet → List (List ℕ) → ℕ → Receipt
row_receipt s rs k = (perform (sheet_after s (take k rs)) (read_row (get_or rs k []))).receipt

-- the bytes of row k of those that are written, without its newline
abbrev pub row_of : List ℕ → ℕ → List ℕ
row_of output k = take line_bytes (drop (row_bytes * k) output)

-- the numbers of row k: refusal number or 0, two amounts, nets, supply
pub record Shows (output : List ℕ) (k : ℕ) (x : Receipt) (s : State) : Type 0 where
  pub number : read_column (take 2 (row_of output k)) ≡ Some x.number
  pub first : column_at (row_of output k) 0 ≡ Some (first_amount x)
  pub second : column_at (row_of output k) 1 ≡ Some (second_amount x)
  pub shown_net0 : column_at (row_of output k) 2 ≡ Some (net0 s.pool)
  pub shown_net1 : column_at (row_of output k) 3 ≡ Some (net1 s.pool)
  pub shown_supply : column_at (row_of output k) 4 ≡ Some s.pool.books.supply

-- each row shows its receipt and the point after it
abbrev pub ShowsRows : List ℕ → Sheet → List (List ℕ) → Type 0
ShowsRows output s rs = (k : ℕ) → k < length rs → Shows output k (row_receipt s rs k) (state_after s rs (suc k))
