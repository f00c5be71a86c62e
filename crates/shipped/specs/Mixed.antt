-- Demand 3 and document 02 (e) of one memory on which calls and openings, without a register and with one, and day sheets are mixed in any order.
use Rattle.std.specs.Prelude.{ℕ, zero, suc, ◌/◌, ◌≤◌, ◌≡◌, cond, List, [], ◌∷◌, ◌++◌, eqb, length, replicate, take, drop}
use Rattle.refusal.specs.Tests.{u64_max}
use Rattle.oracle.specs.Ring.{ring_words}
use Rattle.receipt.specs.declared.Receipt.{Receipt}
use Rattle.calls.specs.declared.Call.{Call}
use Rattle.pool.specs.Calls.{opening as poolOpening}
use Rattle.calls.specs.Next.{State, next}
use Rattle.calls.specs.Registered.{Registered, next_with, opening_with}
use Rattle.register.specs.Numbers.{entries_of}
use Rattle.words.specs.Words.{pool_length, at, opening_of, receipt_of}
use Rattle.memory.specs.Memory.{Memory, called_on, opened_on}
use Rattle.register_calls.specs.Lent.{RegisterMemory, register_called_on, register_opened_on}
use Rattle.rows.specs.Row.{newline, row_bytes, read_row, rows_from}
use Rattle.sheet.specs.Sheet.{Sheet, perform, run}
use Rattle.sheet.specs.Turns.{receipts_of, state_in}
use Rattle.cp_swap.specs.DaySheet.{SheetMemory, begun_at, sheet_in, fed_on, ended_on}
use Rattle.shipped.specs.Openings.{HoldsAlong}
use Rattle.shipped.specs.Library.{point_in, answered}
use Rattle.shipped.specs.Written.{state_after, ShowsRows}
use Rattle.shipped.specs.DayMemory.{written_in}

-- the memory of one pool: record, ring and receipt
pub record Lent : Type 0 where
  pub pool : List ℕ
  pub entries : List ℕ
  pub receipt : List ℕ

-- what is asked of it: one of the six calls, an opening; a deposit or a withdrawal with a register (document 02 (g)), and an opening with one, on any
-- list; a piece of a day sheet with an output and a progress, the end of its input. Each piece and each end has a sheet's six numbers and held
-- bytes of its own, whatever they are: sheets may begin, take turns and end at any time
pub data Use : Type 0 where
  call : Call → Use
  opening : (arguments : List ℕ) → Use
  registered : (holders : List ℕ) → Registered → Use
  opening_by : (arguments holders : List ℕ) (holder : ℕ) → Use
  piece : (sheet held input output progress : List ℕ) → Use
  end : (sheet held output progress : List ℕ) → Use

-- ---- what each leaves
abbrev pub called_in : Lent → Call → Memory
called_in m c = called_on m.pool m.entries m.receipt c

abbrev pub opened_in : Lent → List ℕ → Memory
opened_in m arguments = opened_on m.pool m.entries m.receipt arguments

abbrev pub registered_in : Lent → List ℕ → Registered → RegisterMemory
registered_in m holders c = register_called_on m.pool m.entries m.receipt holders c

abbrev pub opened_by_in : Lent → List ℕ → List ℕ → ℕ → RegisterMemory
opened_by_in m arguments holders holder = register_opened_on m.pool m.entries m.receipt holders arguments holder

abbrev pub fed_in : Lent → List ℕ → List ℕ → List ℕ → List ℕ → List ℕ → SheetMemory
fed_in m sheet held input output progress = fed_on m.pool m.entries sheet held input output progress

abbrev pub ended_in : Lent → List ℕ → List ℕ → List ℕ → List ℕ → SheetMemory
ended_in m sheet held output progress = ended_on m.pool m.entries sheet held output progress

abbrev pub by_call : Memory → Lent
by_call n = record { pool = n.pool; entries = n.entries; receipt = n.receipt }

abbrev pub by_register : RegisterMemory → Lent
by_register n = record { pool = n.pool; entries = n.entries; receipt = n.receipt }

abbrev pub by_sheet : Lent → SheetMemory → Lent
by_sheet m n = record { pool = n.pool; entries = n.entries; receipt = m.receipt }

unfoldable pub used : Lent → Use → Lent
used m (call c) = by_call (called_in m c)
used m (opening arguments) = by_call (opened_in m arguments)
used m (registered holders c) = by_register (registered_in m holders c)
used m (opening_by arguments holders holder) = by_register (opened_by_in m arguments holders holder)
used m (piece sheet held input output progress) = by_sheet m (fed_in m sheet held input output progress)
used m (end sheet held output progress) = by_sheet m (ended_in m sheet held output progress)

unfoldable pub used_all : Lent → List Use → Lent
used_all m [] = m
used_all m (u ∷ us) = used_all (used m u) us

-- ---- the rows that a piece or the end of the input answers; a call and an opening have none
-- how many newlines some bytes have
unfoldable pub newlines : List ℕ → ℕ
newlines [] = zero
newlines (byte ∷ bytes) = cond (eqb byte newline) (suc (newlines bytes)) (newlines bytes)

-- the rows that end in a piece, with the bytes that are held of the first; as many of them as there is room for
abbrev pub rows_ended : ℕ → List ℕ → List ℕ → List (List ℕ)
rows_ended room begun bytes = take (room / row_bytes) (take (newlines bytes) (rows_from begun bytes))

-- the bytes that are held of a row that is begun
abbrev pub begun_in : List ℕ → List ℕ → List ℕ
begun_in sheet held = take (at sheet begun_at) held

abbrev pub rows_of : Use → List (List ℕ)
rows_of (call c) = []
rows_of (opening arguments) = []
rows_of (registered holders c) = []
rows_of (opening_by arguments holders holder) = []
rows_of (piece sheet held input output progress) = rows_ended (length output) (begun_in sheet held) input
rows_of (end sheet held output progress) = rows_from (begun_in sheet held) []

-- the sheet that they are answered on: its rates, and the pool that the memory holds
abbrev pub sheet_held : Lent → List ℕ → Sheet
sheet_held m sheet = sheet_in m.pool m.entries sheet

abbrev pub sheet_of : Lent → Use → Sheet
sheet_of m (call c) = sheet_held m []
sheet_of m (opening arguments) = sheet_held m []
sheet_of m (registered holders c) = sheet_held m []
sheet_of m (opening_by arguments holders holder) = sheet_held m []
sheet_of m (piece sheet held input output progress) = sheet_held m sheet
sheet_of m (end sheet held output progress) = sheet_held m sheet

-- what is written for them
abbrev pub written_by : Lent → Use → List ℕ
written_by m (call c) = []
written_by m (opening arguments) = []
written_by m (registered holders c) = []
written_by m (opening_by arguments holders holder) = []
written_by m (piece sheet held input output progress) = written_in (fed_in m sheet held input output progress)
written_by m (end sheet held output progress) = written_in (ended_in m sheet held output progress)

-- ---- the receipts, and a point after each
unfoldable pub receipts_by : Lent → Use → List Receipt
receipts_by m (call c) = answered (called_in m c) ∷ []
receipts_by m (opening arguments) = answered (opened_in m arguments) ∷ []
receipts_by m (registered holders c) = receipt_of (registered_in m holders c).receipt ∷ []
receipts_by m (opening_by arguments holders holder) = receipt_of (opened_by_in m arguments holders holder).receipt ∷ []
receipts_by m (piece sheet held input output progress) = receipts_of (sheet_held m sheet) (rows_of (piece sheet held input output progress))
receipts_by m (end sheet held output progress) = receipts_of (sheet_held m sheet) (rows_of (end sheet held output progress))

-- the pool that the memory holds, with its ring
abbrev pub point_here : Lent → State
point_here m = point_in m.pool m.entries

-- the point after each of some rows
unfoldable pub points_of : Sheet → List (List ℕ) → List State
points_of s [] = []
points_of s (r ∷ rs) = let t = (perform s (read_row r)).sheet in state_in t ∷ points_of t rs

unfoldable pub points_by : Lent → Use → List State
points_by m (call c) = point_here (used m (call c)) ∷ []
points_by m (opening arguments) = point_here (used m (opening arguments)) ∷ []
points_by m (registered holders c) = point_here (used m (registered holders c)) ∷ []
points_by m (opening_by arguments holders holder) = point_here (used m (opening_by arguments holders holder)) ∷ []
points_by m (piece sheet held input output progress) = points_of (sheet_held m sheet) (rows_of (piece sheet held input output progress))
points_by m (end sheet held output progress) = points_of (sheet_held m sheet) (rows_of (end sheet held output progress))

-- of all in turn
unfoldable pub receipts_by_all : Lent → List Use → List Receipt
receipts_by_all m [] = []
receipts_by_all m (u ∷ us) = receipts_by m u ++ receipts_by_all (used m u) us

unfoldable pub points_by_all : Lent → List Use → List State
points_by_all m [] = []
points_by_all m (u ∷ us) = points_by m u ++ points_by_all (used m u) us

-- point 0 is a start, point k the one after receipt k, counted from 1; after the last it stays
unfoldable pub point_at : State → List State → ℕ → State
point_at s ps zero = s
point_at s [] (suc k) = s
point_at s (p ∷ ps) (suc k) = point_at p ps k

-- the receipts before the list are those before point 0
pub record HoldsMixed (before : List Receipt) (m : Lent) (uses : List Use) : Type 0 where
  pub holds :
      let xs = receipts_by_all m uses in
      HoldsAlong (point_at (point_here m) (points_by_all m uses)) (λ k. before ++ take k xs) (λ i j. drop i (take j xs))
  -- after any of the uses the memory holds the last point so far
  pub in_memory :
      (k : ℕ) → point_here (used_all m (take k uses)) ≡ point_at (point_here m) (points_by_all m uses) (length (points_by_all m (take k uses)))
  -- a call and an opening there are answered with the receipt that the definitions give
  pub answers_call : (k : ℕ) (c : Call) → let n = used_all m (take k uses) in answered (called_in n c) ≡ (next (point_here n) c).after.receipt
  pub answers_opening :
      (k : ℕ) (arguments : List ℕ) → let n = used_all m (take k uses) in
      answered (opened_in n arguments) ≡ (poolOpening (opening_of arguments)).after.receipt
  -- and with a register, whatever its list
  pub answers_registered :
      (k : ℕ) (holders : List ℕ) (c : Registered) → let n = used_all m (take k uses) in
      receipt_of (registered_in n holders c).receipt ≡ (next_with (point_here n) (entries_of holders) c).given.after.receipt
  pub answers_opening_by :
      (k : ℕ) (arguments holders : List ℕ) (holder : ℕ) → let n = used_all m (take k uses) in
      receipt_of (opened_by_in n arguments holders holder).receipt ≡ (opening_with (opening_of arguments) (entries_of holders) holder).given.after.receipt
  -- what a piece or the end writes there is what its rows yield
  pub writes : (k : ℕ) (u : Use) → let n = used_all m (take k uses) in written_by n u ≡ run (sheet_of n u) (rows_of u)
  -- and each row shows its receipt and the point after it; the record's numbers are u64
  pub shows :
      (k : ℕ) (u : Use) → let n = used_all m (take k uses) in ((i : ℕ) → at n.pool i ≤ u64_max) → ShowsRows (written_by n u) (sheet_of n u) (rows_of u)

-- the points of rows are those that they show
unfoldable pub RowPoints : Type 0
RowPoints = (s : Sheet) (rs : List (List ℕ)) (k : ℕ) → point_at (state_in s) (points_of s rs) k ≡ state_after s rs k

-- record and ring are zeros
pub record Zeros (m : Lent) : Type 0 where
  pub zero_pool : m.pool ≡ replicate pool_length 0
  pub zero_ring : m.entries ≡ replicate ring_words 0

-- from a record and ring of zeros; and from an opening that is accepted, without a register or with one, whatever the memory held
unfoldable pub MixedTheorem : Type 0
MixedTheorem =
    (m : Lent) (uses : List Use)
    → (Zeros m → HoldsMixed [] m uses)
    × ((arguments : List ℕ)
    → let first = opening arguments in
    (opened_in m arguments).number ≡ 0 → HoldsMixed (receipts_by m first) (used m first) uses)
    × ((arguments holders : List ℕ) (holder : ℕ)
    → let first = opening_by arguments holders holder in
    (opened_by_in m arguments holders holder).number ≡ 0 → HoldsMixed (receipts_by m first) (used m first) uses)
