-- Document 01's calls on a pool: each as it is decided over the pool's parts, put back into the pool. The lists of tests, in document 01's
-- order as document 02 changes it, and what is given past all of them stand in `swap` with `quotes`, in `liquidity` with `accounting` and
-- `worth`, in `settlement`, `status` and `opening`; what a token's charge takes, in `charge`.
use Rattle.std.specs.Prelude.{ℕ, Bool, true, false, replicate}
use Rattle.oracle.specs.Ring.{Entries, ring_words, seen}
use Rattle.status.specs.Status.{status_after}
use Rattle.settlement.specs.Settlement.{settlement_after}
use Rattle.liquidity.specs.Liquidity.{deposit_after, withdraw_after}
use Rattle.opening.specs.declared.Opening.{Opening}
use Rattle.opening.specs.Opening.{zero_terms, zero_grid, books_with, opening_after}
use Rattle.swap.specs.Swap.{swap_after}
use Rattle.pool.specs.declared.state.Pool.{Pool}
use Rattle.pool.specs.declared.state.After.{After}
use Rattle.pool.specs.declared.state.Decision.{Decision}
use Rattle.pool.specs.State.{start_with, booked_in, standing_in, swapped_in, Done, done_of}

-- ---- opening
unfoldable pub zero_pool : Pool
zero_pool = start_with (books_with 0 0 0) zero_terms zero_grid

unfoldable pub zero_entries : Entries
zero_entries = replicate ring_words 0

-- a refused opening gives its number with a pool and ring of zeros
unfoldable pub opening : Opening → Done
opening o =
    let a = opening_after o in
    record { after = record { pool = start_with a.books a.terms a.grid; receipt = a.receipt }; entries = zero_entries }

-- ---- the swaps
unfoldable pub decision_of : Bool → Pool → Entries → ℕ → ℕ → ℕ → ℕ → Decision
decision_of byInput p entries direction amount limit clock =
    swapped_in p (swap_after byInput p.terms p.status p.books p.ring (seen p.ring entries) direction amount limit clock)

unfoldable pub swap_base_input : Pool → Entries → ℕ → ℕ → ℕ → ℕ → Done
swap_base_input p entries direction amount minimum clock = done_of entries (decision_of true p entries direction amount minimum clock)

unfoldable pub swap_base_output : Pool → Entries → ℕ → ℕ → ℕ → ℕ → Done
swap_base_output p entries direction amount maximum clock = done_of entries (decision_of false p entries direction amount maximum clock)

-- ---- deposit and withdrawal
unfoldable pub deposit : Pool → ℕ → ℕ → ℕ → After
deposit p lp maximum0 maximum1 = booked_in p (deposit_after p.terms.charges p.status p.books lp maximum0 maximum1)

unfoldable pub withdraw : Pool → ℕ → ℕ → ℕ → ℕ → After
withdraw p lp owned minimum0 minimum1 = booked_in p (withdraw_after p.terms.charges p.status p.books lp owned minimum0 minimum1)

-- as one call
abbrev pub change_of : Bool → Pool → ℕ → ℕ → ℕ → ℕ → After
change_of true p lp owned maximum0 maximum1 = deposit p lp maximum0 maximum1
change_of false p lp owned minimum0 minimum1 = withdraw p lp owned minimum0 minimum1

-- ---- settlement
unfoldable pub settlement : Pool → ℕ → After
settlement p share = booked_in p (settlement_after p.terms.charges p.books share)

-- ---- status
unfoldable pub set_status : Pool → ℕ → ℕ → After
set_status p bit flag = standing_in p (status_after p.status bit flag)
