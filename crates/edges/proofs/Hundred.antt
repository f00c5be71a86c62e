-- A withdrawal that is accepted has passed its last test, so at least 100 LP are left.
-- Assumes nothing.
use native.Mathlib.Omega.{arith}
use borrow.Author.Tests.{ltb-false}
use Rattle.refusal.specs.Tests.{◌then◌}
use Rattle.accounting.specs.Counters.{counter_tests}
use Rattle.worth.specs.Worth.{amount_tests}
use Rattle.liquidity.specs.Liquidity.{withdraw_tests}
use Rattle.calls.specs.declared.Call.TheVariants.{Withdraw}
use Rattle.calls.proofs.Decisions.{decision}
use Rattle.calls.proofs.Refusals.{call_number_tells}
use Rattle.edges.specs.Hundred.{HundredStays}

pub hundred_stays : HundredStays
unfolding decision withdraw_tests counter_tests amount_tests ◌then◌
hundred_stays s lp owned minimum0 minimum1 z =
    let a = (call_number_tells s (Withdraw lp owned minimum0 minimum1)).where_accepted z in
    rw a.result (let t = a.passed in omega (arith, ltb-false))
