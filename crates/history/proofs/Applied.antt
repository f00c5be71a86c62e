-- What `apply` ensures is a step of a run: what demand 3 says of every run, it says of the code.
-- Assumes nothing.
use mathlib.Core.Path.{◌≡◌}
use mathlib.Core.List.{List, [], ◌∷◌}
use Rattle.oracle.specs.Ring.{Entries}
use Rattle.receipt.specs.declared.Receipt.{Receipt}
use Rattle.pool.specs.declared.state.After.{After}
use Rattle.pool.specs.State.{done}
use Rattle.calls.specs.declared.Call.{Call}
use Rattle.calls.specs.Next.{State, state_of, next}
use Rattle.history.specs.Run.{call, Ran, stop, step}

-- a call applied, and then a run from the pool and entries that it left
pub applied_then :
    {s s' : State} {xs : List Receipt} (c : Call) (r : After) (entries : Entries) → done r entries ≡ next s c
    → Ran (state_of r.pool entries) xs s'
    → Ran s (r.receipt ∷ xs) s'
applied_then c r entries e rest = step (call c) (done r entries) e rest

-- a call applied is a run of its own
pub applied_runs : {s : State} (c : Call) (r : After) (entries : Entries) → done r entries ≡ next s c → Ran s (r.receipt ∷ []) (state_of r.pool entries)
applied_runs c r entries e = applied_then c r entries e stop
