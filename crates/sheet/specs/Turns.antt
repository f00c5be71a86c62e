-- Rows in turn: the sheet after them, and their receipts.
use Rattle.std.specs.Prelude.{Option, Some, None, ℕ, Bool, false, List, [], ◌∷◌, eqb}
use Rattle.receipt.specs.declared.Receipt.{Receipt}
use Rattle.receipt.specs.Kind as Kind
use Rattle.calls.specs.Next.{State, state_of}
use Rattle.rows.specs.declared.row.Row.{Row}
use Rattle.rows.specs.Row.{read_row}
use Rattle.sheet.specs.Sheet.{Sheet, perform}

unfoldable pub sheet_after : Sheet → List (List ℕ) → Sheet
sheet_after s [] = s
sheet_after s (r ∷ rs) = sheet_after (perform s (read_row r)).sheet rs

unfoldable pub receipts_of : Sheet → List (List ℕ) → List Receipt
receipts_of s [] = []
receipts_of s (r ∷ rs) = let t = perform s (read_row r) in t.receipt ∷ receipts_of t.sheet rs

-- the pool of a sheet, with its ring
abbrev pub state_in : Sheet → State
state_in s = state_of s.pool s.entries

-- the receipt of an accepted opening alone has its kind
abbrev pub is_opening : Receipt → Bool
is_opening x = eqb x.kind Kind.opening_kind

-- a row of its kind asks for an opening
abbrev pub asks_opening : Option Row → Bool
asks_opening None = false
asks_opening (Some r) = eqb r.kind Kind.opening_kind
