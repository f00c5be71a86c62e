-- Demand 3 and document 02 (e) of a pool that may be opened more than once: its points, and the receipts of all that was asked of it.
use Rattle.std.specs.Prelude.{ℕ, ◌*◌, ◌≤◌, ◌<◌, ◌≡◌, Bool, true, false, cond, not, ◌&&◌, List, [], ◌∷◌, eqb}
use Rattle.accounting.specs.Locked.{lock_lp_amount}
use Rattle.opening.specs.declared.Opening.{Opening}
use Rattle.receipt.specs.declared.Receipt.{Receipt}
use Rattle.receipt.specs.Receipt.{refusal}
use Rattle.pool.specs.State.{net0, net1}
use Rattle.pool.specs.Calls.{opening}
use Rattle.calls.specs.declared.Call.{Call}
use Rattle.calls.specs.Next.{State, next, left}
use Rattle.history.specs.Run.{Ran}
use Rattle.history.specs.Afresh.{Books, Reckoning, start, reckon_one}
use Rattle.history.specs.Demand3.{held_books, product, supply²}
use Rattle.sheet.specs.Turns.{is_opening}

-- ---- reckoned afresh: an accepted opening starts anew with its amounts, every other receipt counts as in a list of calls
unfoldable pub reckon_next : Reckoning → Receipt → Reckoning
reckon_next r x = cond (is_opening x) (start x.paid.in0 x.paid.in1) (reckon_one r x)

unfoldable pub reckon_all : Reckoning → List Receipt → Reckoning
reckon_all r [] = r
reckon_all r (x ∷ xs) = reckon_all (reckon_next r x) xs

-- before an accepted opening all is 0
abbrev pub books_after : List Receipt → Books
books_after xs = (reckon_all (start 0 0) xs).books

-- ---- lists with no accepted opening
unfoldable pub no_opening : List Receipt → Bool
no_opening [] = true
no_opening (x ∷ xs) = not (is_opening x) && no_opening xs

-- ---- from one point to another
-- what was asked in turn, with a receipt of each: a call gives and leaves what document 01's definitions give at its point, and one with a register
-- that is accepted is the call without it; an accepted opening starts anew, whatever was before it; all else (an opening or a call with a register
-- that is refused, and a day sheet's rates and unreadable rows) leaves pool and ring alone, and its receipt has no amounts
pub data Went : State → List Receipt → State → Type 0 where
  stop : {s : State} → Went s [] s
  calls : {s s' : State} {xs : List Receipt} (c : Call) → Went (left (next s c)) xs s' → Went s ((next s c).after.receipt ∷ xs) s'
  opens :
      {s s' : State} {xs : List Receipt} (o : Opening) → (opening o).after.receipt.number ≡ 0
      → Went (left (opening o)) xs s' → Went s ((opening o).after.receipt ∷ xs) s'
  stays : {s s' : State} {xs : List Receipt} (n : ℕ) → Went s xs s' → Went s (refusal n ∷ xs) s'

-- the receipts of accepted calls; those of kind 0 are of refused ones, and of a day sheet's rates and unreadable rows
unfoldable pub of_calls : List Receipt → List Receipt
of_calls [] = []
of_calls (x ∷ xs) = cond (eqb x.kind 0) (of_calls xs) (x ∷ of_calls xs)

-- a list of calls as demand 3 has it, run from one point to another: the receipts of its accepted calls are those in xs
pub record Runs (point : State) (xs : List Receipt) (later : State) : Type 0 where
  pub receipts : List Receipt
  pub ran : Ran point receipts later
  pub same : of_calls receipts ≡ of_calls xs

-- ---- at every point, the receipts up to it and those between two points
pub record HoldsAlong (point : ℕ → State) (receipts : ℕ → List Receipt) (between : ℕ → ℕ → List Receipt) : Type 0 where
  -- from any point to a later one: calls, each receipt the one that document 01's definitions give, openings, and what leaves pool and ring alone
  pub went : (i j : ℕ) → i ≤ j → Went (point i) (between i j) (point j)
  -- and to one of the same opening a list of calls
  pub runs : (i j : ℕ) → i ≤ j → no_opening (between i j) ≡ true → Runs (point i) (between i j) (point j)
  -- at every point the two vaults, the six fee counters, the LP supply and the newest price sums equal those reckoned afresh
  pub afresh : (i : ℕ) → held_books (point i) ≡ books_after (receipts i)
  -- at every point the LP supply squared is at most the product of the two nets
  pub floor : (i : ℕ) → supply² (point i) ≤ product (point i)
  -- of any two points of the same opening, the later product times the earlier supply squared is at least the earlier product times the
  -- later supply squared
  pub rise :
      (i j : ℕ) → i ≤ j → no_opening (between i j) ≡ true → product (point i) * supply² (point j) ≤ product (point j) * supply² (point i)
  -- at every point after an accepted opening the LP supply is at least 100
  pub locked : (i : ℕ) → no_opening (receipts i) ≡ false → lock_lp_amount ≤ (point i).pool.books.supply
  -- and both nets are above 0
  pub alive : (i : ℕ) → no_opening (receipts i) ≡ false → (0 < net0 (point i).pool) × (0 < net1 (point i).pool)
