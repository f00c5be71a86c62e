-- The hundred that stays: no call takes the LP supply below it, and where it stays both nets are above 0.
-- Assumes nothing.
use Prim.Native.Nat.{◌≤◌, ◌<◌}
use mathlib.Core.Path.{◌≡◌}
use mathlib.Core.List.{List}
use native.Mathlib.Omega.{arith}
use native.Mathlib.Nat.{mul_comm}
use borrow.Author.Tests.{ltb-false}
use Rattle.refusal.specs.Tests.{◌then◌}
use Rattle.refusal.proofs.Stops.{Passed, outcome_elim}
use Rattle.accounting.specs.Counters.{counter_tests}
use Rattle.accounting.specs.Locked.{lock_lp_amount}
use Rattle.receipt.specs.declared.Receipt.{Receipt}
use Rattle.worth.specs.Worth.{amount_tests}
use Rattle.liquidity.specs.Liquidity.{withdraw_tests}
use Rattle.opening.specs.declared.Opening.{Opening}
use Rattle.opening.specs.Opening.{opening_tests}
use Rattle.swap.specs.Swap.{accepted_swap, paid_books}
use Rattle.pool.specs.State.{Done, refused, net0, net1}
use Rattle.pool.specs.Calls.{opening}
use Rattle.calls.specs.declared.Call.{Call}
use Rattle.calls.specs.declared.Call.TheVariants.{SwapBaseInput, SwapBaseOutput, Deposit, Withdraw, Settle, SetStatus}
use Rattle.calls.specs.Next.{State, next, left}
use Rattle.calls.specs.Registered.{without_register}
use Rattle.calls.proofs.Decisions.{decision, opening_decision, tests_of, accepted_of, refused_at, call_decides}
use Rattle.calls.proofs.Entries.{entered_given}
use Rattle.calls.proofs.Refusals.{opening_number_tells}
use Rattle.history.specs.Run.{Step, call, registered, taken, Ran, stop, step}
use Rattle.history.specs.Demand3.{product, supply²}
use Rattle.history.proofs.Products.{above_floor}

-- the locked LP are among the supply
abbrev pub Locked : State → Type 0
Locked s = lock_lp_amount ≤ s.pool.books.supply

-- ---- one call
accepted_locked : (s : State) (c : Call) → Locked s → Passed (tests_of s c) → Locked (left (accepted_of s c))
unfolding decision withdraw_tests counter_tests amount_tests ◌then◌ accepted_swap paid_books
accepted_locked s (SwapBaseInput direction amount minimum clock) h t = h
accepted_locked s (SwapBaseOutput direction amount maximum clock) h t = h
accepted_locked s (Deposit lp maximum0 maximum1) h t = omega arith
accepted_locked s (Withdraw lp owned minimum0 minimum1) h t = omega (arith, ltb-false)
accepted_locked s (Settle share) h t = h
accepted_locked s (SetStatus bit flag) h t = h

pub call_locked : (s : State) (c : Call) → Locked s → Locked (left (next s c))
unfolding refused
call_locked s c h =
    rw (call_decides s c).by_tests
    (outcome_elim (λ (d : Done). Locked (left d)) (tests_of s c) (refused_at s) (accepted_of s c) (λ n. h) (accepted_locked s c h))

step_locked : (s : State) (a : Step) → Locked s → Locked (left (taken s a))
unfolding refused
step_locked s (call c) h = call_locked s c h
step_locked s (registered es c) h = entered_given s es c (λ (d : Done). Locked (left d)) (λ n. h) (call_locked s (without_register es c) h)

-- ---- a run
pub run_locked : {s s' : State} {xs : List Receipt} → Ran s xs s' → Locked s → Locked s'
run_locked stop h = h
run_locked {s} (step a d e rest) h = run_locked rest (rw e (step_locked s a h))

-- ---- the start: the opener gets at least one LP besides
pub opening_locked : (o : Opening) → (opening o).after.receipt.number ≡ 0 → Locked (left (opening o))
unfolding opening_decision opening_tests ◌then◌
opening_locked o z =
    let a = (opening_number_tells o).where_accepted z in
    rw a.result (let t = a.passed in omega (arith, ltb-false))

-- ---- over the floor both nets are above 0
pub both_alive : (s : State) → supply² s ≤ product s → Locked s → (0 < net0 s.pool) × (0 < net1 s.pool)
both_alive s f h =
    let a = net0 s.pool in
    let b = net1 s.pool in
    let l = s.pool.books.supply in
    (above_floor a b l f (omega arith), above_floor b a l (rw (mul_comm b a) f) (omega arith))
