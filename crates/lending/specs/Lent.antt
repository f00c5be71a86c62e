-- Document 01: 'the six fee counters are lent to the booking step by reference'.
use Rattle.std.specs.Prelude.{ℕ, Bool}
use Rattle.refusal.specs.Tests.{outcome}
use Rattle.accounting.specs.declared.FeeCounters.{FeeCounters}
use Rattle.accounting.specs.Booking.{booked, booking_tests}

-- what the lent counters hold after a booking: a refused one leaves them as they were
unfoldable pub left_counters : Bool → Bool → ℕ → ℕ → ℕ → FeeCounters → FeeCounters
left_counters inToken feeToken protocol fund creator f =
    outcome (booking_tests inToken feeToken protocol fund creator f) (λ _. f) (booked inToken feeToken protocol fund creator f)
