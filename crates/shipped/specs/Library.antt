-- Demand 3 and document 02 (e) in a caller's memory: an accepted opening, and then any list of the library's six calls, each on record, ring and
-- receipt as the call before it left them.
use Rattle.std.specs.Prelude.{ℕ, ◌≤◌, ◌≡◌, List, [], ◌∷◌, map, take}
use Rattle.receipt.specs.declared.Receipt.{Receipt}
use Rattle.pool.specs.Calls.{opening}
use Rattle.calls.specs.declared.Call.{Call}
use Rattle.calls.specs.Next.{State, state_of, left}
use Rattle.history.specs.Run.{call, receipts}
use Rattle.history.specs.Demand3.{Holds}
use Rattle.words.specs.Words.{opening_of, pool_of, receipt_of}
use Rattle.memory.specs.Memory.{Memory, called_on, opened_on}

-- a call on the memory as it stands, and a list of calls
abbrev pub called_next : Memory → Call → Memory
called_next m c = called_on m.pool m.entries m.receipt c

unfoldable pub memory_after : Memory → List Call → Memory
memory_after m [] = m
memory_after m (c ∷ cs) = memory_after (called_next m c) cs

-- the pool that the record's words hold, with the ring's entries
abbrev pub point_in : List ℕ → List ℕ → State
point_in pool entries = state_of (pool_of pool) entries

abbrev pub point_of : Memory → State
point_of m = point_in m.pool m.entries

-- the receipt that the memory holds
abbrev pub answered : Memory → Receipt
answered m = receipt_of m.receipt

unfoldable pub receipts_in : Memory → List Call → List Receipt
receipts_in m [] = []
receipts_in m (c ∷ cs) = answered (called_next m c) ∷ receipts_in (called_next m c) cs

-- point k is the memory after the first k calls, point 0 as the opening left it
pub record HoldsInMemory (amount0 amount1 : ℕ) (opened : Memory) (start : State) (calls : List Call) : Type 0 where
  -- each receipt is the one that document 01's definitions give
  pub receipts_right : (k : ℕ) → receipts_in opened (take k calls) ≡ receipts start (map call (take k calls))
  -- and all that the list theorem says is true of what the memory holds, at any point i and between it and any later point j
  pub holds :
      (i j : ℕ) → i ≤ j
      → Holds amount0 amount1 (receipts_in opened (take i calls)) (point_of (memory_after opened (take i calls))) (point_of (memory_after opened (take j calls)))

-- whatever the memory held before the opening
unfoldable pub LibraryTheorem : Type 0
LibraryTheorem =
    (pool entries receipt arguments : List ℕ)
    → let opened = opened_on pool entries receipt arguments in
    let o = opening_of arguments in
    opened.number ≡ 0 → (calls : List Call) → HoldsInMemory o.amount0 o.amount1 opened (left (opening o)) calls
