-- What the private steps of this crate answer. No public definition rests on these.
use Rattle.std.specs.Prelude.{Result, Ok, Err, ℕ, ◌+◌, Bool, [], ◌∷◌, eqb}
use Rattle.refusal.specs.Refusal.{math_overflow}
use Rattle.refusal.specs.Tests.{Tests, ◌then◌, past, outcome}
use Rattle.rates.specs.declared.Terms.{Terms}
use Rattle.rates.specs.Rates.{on_input}
use Rattle.calculator.specs.declared.SwapResult.{SwapResult}
use Rattle.accounting.specs.declared.Books.{Books}
use Rattle.accounting.specs.Counters.{of_token, net0, net1}
use Rattle.accounting.specs.Booking.{creator_token, booked, booking_tests}
use Rattle.oracle.specs.declared.Ring.{Ring}
use Rattle.oracle.specs.Ring.{Entry, price}
use Rattle.quotes.specs.Quotes.{vault_amount, charged_of, result_of}
use Rattle.swap.specs.declared.SwapAfter.{SwapAfter}
use Rattle.swap.specs.Swap.{paid_books, swap_tests, accepted_swap}

-- a vault with what is paid in
abbrev pub room : ℕ → ℕ → Tests
room vault input = (past (vault + input), math_overflow) ∷ []

abbrev pub paid_in : ℕ → ℕ → Result ℕ ℕ
paid_in vault input = outcome (room vault input) Err (Ok (vault + input))

-- a counter past u64, 11; vault 8
abbrev pub pay_tests : Bool → Bool → SwapResult → Books → Tests
pay_tests zeroIn zeroFee s b =
    booking_tests zeroIn zeroFee s.protocol s.fund s.creator b.fees
    then room (of_token zeroIn b.vault0 b.vault1) s.input

-- the books after a quoted swap
unfoldable pub paid_at : Bool → Bool → SwapResult → Books → Result Books ℕ
paid_at zeroIn zeroFee s b =
    outcome (pay_tests zeroIn zeroFee s b) Err (Ok (paid_books zeroIn s (booked zeroIn zeroFee s.protocol s.fund s.creator b.fees) b))

-- the whole swap, or a refusal's number
unfoldable pub swap_answer : Bool → Terms → ℕ → Books → Ring → Entry → ℕ → ℕ → ℕ → ℕ → Result SwapAfter ℕ
swap_answer byInput t status b ring e direction amount limit clock =
    let zeroIn = eqb direction 0 in
    let feeOnInput = on_input t.fee_model zeroIn in
    let zeroFee = creator_token feeOnInput zeroIn in
    let s = result_of byInput t b zeroIn (vault_amount byInput t zeroIn amount) in
    outcome (swap_tests byInput zeroIn feeOnInput zeroFee s t status b ring e direction amount limit clock) Err
    (Ok (accepted_swap byInput zeroIn zeroFee s (charged_of byInput t zeroIn amount s) (booked zeroIn zeroFee s.protocol s.fund s.creator b.fees) b ring e
    (price (net0 b) (net1 b)) (price (net1 b) (net0 b)) clock))
