-- Demand 1: 'no refused call alters the pool or its price ring. A refusal returns its number from the table in document 01 and zero amounts.'
use Rattle.std.specs.Prelude.{ℕ, ◌≡◌, List}
use Rattle.receipt.specs.Receipt.{refusal}
use Rattle.register.specs.declared.Holder.{Holder}
use Rattle.opening.specs.declared.Opening.{Opening}
use Rattle.pool.specs.State.{Done}
use Rattle.pool.specs.Calls.{zero_pool, zero_entries, opening}
use Rattle.calls.specs.declared.Call.{Call}
use Rattle.calls.specs.Next.{State, state_of, next, left}
use Rattle.calls.specs.Registered.{Registered, Entered, next_with, opening_with}

-- what was given at a point is refused: pool and ring are as they were, and the receipt is the number and zeros
pub record LeavesAll (s : State) (d : Done) : Type 0 where
  pub unchanged : left d ≡ s
  pub zeros : d.after.receipt ≡ refusal d.after.receipt.number

-- with a register (document 02 (g)) the list is as it was too
pub record LeavesList (s : State) (es : List Holder) (e : Entered) : Type 0 where
  pub all : LeavesAll s e.given
  pub list : e.holders ≡ es

-- of every call at every point, whatever its arguments; a refused opening gives a pool and ring of zeros. With a register, whatever its list
unfoldable pub RefusalsLeaveAll : Type 0
RefusalsLeaveAll =
    ((s : State) (c : Call) → ((next s c).after.receipt.number ≡ 0 → ⊥) → LeavesAll s (next s c))
    × ((o : Opening) → ((opening o).after.receipt.number ≡ 0 → ⊥) → LeavesAll (state_of zero_pool zero_entries) (opening o))
    × ((s : State) (es : List Holder) (c : Registered) → ((next_with s es c).given.after.receipt.number ≡ 0 → ⊥) → LeavesList s es (next_with s es c))
    × ((o : Opening) (es : List Holder) (holder : ℕ)
    → ((opening_with o es holder).given.after.receipt.number ≡ 0 → ⊥)
    → LeavesList (state_of zero_pool zero_entries) es (opening_with o es holder))
