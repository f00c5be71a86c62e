-- One call at a point of a list: what it gives, and the point that it leaves.
use Rattle.oracle.specs.Ring.{Entries}
use Rattle.pool.specs.declared.state.Pool.{Pool}
use Rattle.pool.specs.declared.state.After.{After}
use Rattle.pool.specs.State.{Done}
use Rattle.pool.specs.Calls.{swap_base_input, swap_base_output, deposit, withdraw, settlement, set_status}
use Rattle.calls.specs.declared.Call.{Call}
use Rattle.calls.specs.declared.Call.TheVariants.{SwapBaseInput, SwapBaseOutput, Deposit, Withdraw, Settle, SetStatus}

-- a point of a list: the pool with its ring's head, and the ring's entries
pub record State : Type 0 where
  pub pool : Pool
  pub entries : Entries

-- a pool with the entries that are lent beside it
abbrev pub state_of : Pool → Entries → State
state_of p entries = record { pool = p; entries = entries }

-- a call that does not use the ring leaves its entries as they were
abbrev pub besides : Entries → After → Done
besides entries a = record { after = a; entries = entries }

-- what a call gives at a point: each receipt is the one that document 01's definitions give
unfoldable pub next : State → Call → Done
next s (SwapBaseInput direction amount minimum clock) = swap_base_input s.pool s.entries direction amount minimum clock
next s (SwapBaseOutput direction amount maximum clock) = swap_base_output s.pool s.entries direction amount maximum clock
next s (Deposit lp maximum0 maximum1) = besides s.entries (deposit s.pool lp.0 maximum0.0 maximum1.0)
next s (Withdraw lp owned minimum0 minimum1) = besides s.entries (withdraw s.pool lp.0 owned.0 minimum0.0 minimum1.0)
next s (Settle share) = besides s.entries (settlement s.pool share)
next s (SetStatus bit flag) = besides s.entries (set_status s.pool bit flag)

-- the point that a call leaves
abbrev pub left : Done → State
left d = record { pool = d.after.pool; entries = d.entries }
