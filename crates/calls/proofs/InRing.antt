-- A swap past all its tests has passed the ring's first step.
-- Assumes nothing.
use Prim.Native.Nat.{ℕ}
use mathlib.Core.Path.{◌≡◌}
use mathlib.Core.Bool.{Bool, true, false}
use Rattle.refusal.specs.Tests.{◌then◌}
use Rattle.refusal.proofs.Stops.{Passed}
use Rattle.rates.specs.Rates.{rate_limits}
use Rattle.accounting.specs.Counters.{counter_tests}
use Rattle.oracle.specs.Ring.{outside}
use Rattle.swap.specs.Swap.{last_tests, input_tests, output_tests}
use Rattle.calls.specs.Next.{State}
use Rattle.calls.proofs.Decisions.{swap_decision}

pub in_ring :
    (byInput : Bool) (s : State) (direction amount limit clock : ℕ) → Passed (swap_decision byInput s direction amount limit clock).tests
    → outside s.pool.ring ≡ false
unfolding input_tests output_tests last_tests rate_limits counter_tests ◌then◌
in_ring true s direction amount limit clock t = search
in_ring false s direction amount limit clock t = search
