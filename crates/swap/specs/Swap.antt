-- Document 01, 'Swap by input' (direction, amount, minimum, clock) and 'Swap by output' (direction, amount, maximum, clock), with
-- document 02 (a), (b), (c) and (f), over a pool's terms t, status and books b, the ring's head and its newest entry e, as an update sees it. zeroIn is
-- true where token 0 goes in (direction 0).
use Rattle.std.specs.Prelude.{Ok, Err, ℕ, ◌+◌, ◌-◌, Bool, true, false, ◌∷◌, ltb, leb, eqb}
use Rattle.refusal.specs.Refusal.{exceeded_slippage, math_overflow, require_violated, panicked, transfer_fee_calculate_not_match}
use Rattle.refusal.specs.Tests.{Tests, ◌then◌, past, outcome}
use Rattle.rates.specs.declared.Terms.{Terms}
use Rattle.rates.specs.Rates.{creator_rate, on_input}
use Rattle.calculator.specs.declared.SwapResult.{SwapResult}
use Rattle.calculator.specs.Calculator.{curve_output, curve_input}
use Rattle.accounting.specs.declared.FeeCounters.{FeeCounters}
use Rattle.accounting.specs.declared.Books.{Books}
use Rattle.accounting.specs.Counters.{of_token, net0, net1}
use Rattle.accounting.specs.Booking.{creator_token, booked}
use Rattle.oracle.specs.declared.Ring.{Ring}
use Rattle.oracle.specs.Ring.{Entry, price, ring_tests, accepted_update}
use Rattle.oracle.specs.Update.{after_of}
use Rattle.receipt.specs.declared.Receipt.{Receipt}
use Rattle.receipt.specs.Kind.{swap_base_input_kind, swap_base_output_kind}
use Rattle.receipt.specs.Receipt.{nothing_shared, refusal, accepted}
use Rattle.charge.specs.declared.Charged.{Charged}
use Rattle.charge.specs.Charge.{rest_of, least_sent}
use Rattle.quotes.specs.Quotes.{net_in, net_out, charge_in, charge_out, vault_amount, charged_of, result_of, looked, front_tests, net_tests}
use Rattle.swap.specs.declared.SwapAfter.{SwapAfter}

-- ---- the tests, each call's in its order; s is what the swap moves at the vaults and charges in fees
-- a counter past u64, 11; vault 8; ring. Both prices are taken before the swap
unfoldable pub last_tests : Bool → Bool → SwapResult → Books → Ring → Entry → ℕ → Tests
last_tests zeroIn zeroFee s b ring e clock =
    (past (of_token zeroIn b.fees.protocol0 b.fees.protocol1 + s.protocol), panicked)
    ∷ (past (of_token zeroIn b.fees.fund0 b.fees.fund1 + s.fund), panicked)
    ∷ (past (of_token zeroFee b.fees.creator0 b.fees.creator1 + s.creator), panicked)
    ∷ (past (of_token zeroIn b.vault0 b.vault1 + s.input), math_overflow)
    ∷ ring_tests ring e clock (price (net0 b) (net1 b)) (price (net1 b) (net0 b))

-- the rate limits, 3; bit 2 set or clock before open time, 1; what arrives of the amount is 0, 10 (where the direction is unknown, the amount itself);
-- direction 5; counters' sums 8, vaults 7; a net of 0, 11; model 9; what the solver receives of the output 0, 10, or below minimum, 2; a counter past
-- u64, 11; vault 8; ring
unfoldable pub input_tests : Bool → Bool → SwapResult → Terms → ℕ → Books → Ring → Entry → ℕ → ℕ → ℕ → ℕ → Tests
input_tests zeroIn zeroFee s t status b ring e direction amount minimum clock =
    let arrives = rest_of (charge_in zeroIn t) amount in
    let received = rest_of (charge_out zeroIn t) s.output in
    front_tests t status direction (looked true direction amount arrives) clock
    then (net_tests b t.fee_model
    then ((eqb received 0, require_violated)
    ∷ (ltb received minimum, exceeded_slippage)
    ∷ last_tests zeroIn zeroFee s b ring e clock))

-- 3, 1, then amount 0, 10; 5; no u64 has the wanted output as its rest, 14; 8, 7, 11, 9 as by input; what leaves the vault, with the creator fee, at or
-- above netOut, 11; input before or after fees past u64, 11; no u64 has that input as its rest, 14; what the solver sends above maximum, 2; counters,
-- vault, ring as by input
unfoldable pub output_tests : Bool → Bool → Bool → SwapResult → Terms → ℕ → Books → Ring → Entry → ℕ → ℕ → ℕ → ℕ → Tests
output_tests zeroIn feeOnInput zeroFee s t status b ring e direction amount maximum clock =
    let leaves = least_sent (charge_out zeroIn t) amount in
    let sent = least_sent (charge_in zeroIn t) s.input in
    front_tests t status direction amount clock
    then ((past leaves, transfer_fee_calculate_not_match)
    ∷ (net_tests b t.fee_model
    then ((leb (net_out zeroIn b) (curve_output feeOnInput (creator_rate t) leaves), panicked)
    ∷ (past (curve_input feeOnInput (creator_rate t) (net_in zeroIn b) (net_out zeroIn b) leaves), panicked)
    ∷ (past s.input, panicked)
    ∷ (past sent, transfer_fee_calculate_not_match)
    ∷ (ltb maximum sent, exceeded_slippage)
    ∷ last_tests zeroIn zeroFee s b ring e clock)))

abbrev pub swap_tests : Bool → Bool → Bool → Bool → SwapResult → Terms → ℕ → Books → Ring → Entry → ℕ → ℕ → ℕ → ℕ → Tests
swap_tests true zeroIn feeOnInput zeroFee = input_tests zeroIn zeroFee
swap_tests false zeroIn feeOnInput zeroFee = output_tests zeroIn feeOnInput zeroFee

-- ---- what is given
-- a refused swap: books and head as they were, the number and zeros, nothing to be written
unfoldable pub refused_swap : Books → Ring → ℕ → SwapAfter
refused_swap b ring n = record { books = b; ring = ring; receipt = refusal n; update = Err n }

-- a vault adds what was paid in and loses what was paid out; the fees go to their counters
unfoldable pub paid_books : Bool → SwapResult → FeeCounters → Books → Books
paid_books zeroIn s fees b = record {
  vault0 = of_token zeroIn (b.vault0 + s.input) (b.vault0 - s.output);
  vault1 = of_token zeroIn (b.vault1 - s.output) (b.vault1 + s.input);
  fees = fees;
  supply = b.supply;
}

abbrev pub kind_of : Bool → ℕ
kind_of true = swap_base_input_kind
kind_of false = swap_base_output_kind

unfoldable pub swap_receipt : Bool → Bool → Bool → SwapResult → Charged → ℕ → Receipt
swap_receipt byInput zeroIn zeroFee s charged clock =
    accepted (kind_of byInput)
    (record {
      in0 = of_token zeroIn s.input 0;
      in1 = of_token zeroIn 0 s.input;
      out0 = of_token zeroIn 0 s.output;
      out1 = of_token zeroIn s.output 0;
      lp = 0;
    })
    (record {
      direction = of_token zeroIn 0 1;
      clock = clock;
      trade_fee = s.trade;
      protocol_fee = s.protocol;
      fund_fee = s.fund;
      creator_fee = s.creator;
      creator_fee_token = of_token zeroFee 0 1;
    })
    nothing_shared charged

-- an accepted swap with its counters booked, at prices before it
unfoldable pub accepted_swap : Bool → Bool → Bool → SwapResult → Charged → FeeCounters → Books → Ring → Entry → ℕ → ℕ → ℕ → SwapAfter
accepted_swap byInput zeroIn zeroFee s charged fees b ring e price0 price1 clock =
    let u = accepted_update ring e clock price0 price1 in
    record {
      books = paid_books zeroIn s fees b;
      ring = after_of u;
      receipt = swap_receipt byInput zeroIn zeroFee s charged clock;
      update = Ok u;
    }

-- ---- the swap: by input on what arrives, by output on what leaves
abbrev pub swap_at : Bool → Bool → Bool → Bool → SwapResult → Charged → Terms → ℕ → Books → Ring → Entry → ℕ → ℕ → ℕ → ℕ → SwapAfter
swap_at byInput zeroIn feeOnInput zeroFee s charged t status b ring e direction amount limit clock =
    outcome (swap_tests byInput zeroIn feeOnInput zeroFee s t status b ring e direction amount limit clock)
    (refused_swap b ring)
    (accepted_swap byInput zeroIn zeroFee s charged (booked zeroIn zeroFee s.protocol s.fund s.creator b.fees) b ring e
    (price (net0 b) (net1 b)) (price (net1 b) (net0 b)) clock)

unfoldable pub swap_after : Bool → Terms → ℕ → Books → Ring → Entry → ℕ → ℕ → ℕ → ℕ → SwapAfter
swap_after byInput t status b ring e direction amount limit clock =
    let zeroIn = eqb direction 0 in
    let feeOnInput = on_input t.fee_model zeroIn in
    let s = result_of byInput t b zeroIn (vault_amount byInput t zeroIn amount) in
    swap_at byInput zeroIn feeOnInput (creator_token feeOnInput zeroIn) s (charged_of byInput t zeroIn amount s)
    t status b ring e direction amount limit clock
