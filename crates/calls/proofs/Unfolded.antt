-- A call on numbers is worked out by computation.
-- Assumes nothing.
use Rattle.root.specs.Root.{root_at, root}
use Rattle.refusal.specs.Tests.{◌then◌, outcome}
use Rattle.fees.specs.Fees.{fee_up, fee_down, split, pre_fee}
use Rattle.curve.specs.ConstantProduct.{swap_out, swap_in, lp_amount}
use Rattle.rates.specs.Rates.{rate_limits, rate_tests, on_input}
use Rattle.calculator.specs.Calculator.{swap_base_input as inputWithFees, curve_output, curve_input, charged, with_fees, swap_base_output as outputWithFees}
use Rattle.accounting.specs.Counters.{counter_tests}
use Rattle.accounting.specs.Booking.{booked}
use Rattle.charge.specs.Charge.{charge_on, rest_of, charge_for, least_sent}
use Rattle.oracle.specs.Ring.{entry_at, with_entry, price, accepted_update}
use Rattle.register.specs.Holders.{some, first_of, numbered, balance_of}
use Rattle.register.specs.Changes.{register_tests, with_opener, credit_tests, place_of, credited, debited}
use Rattle.receipt.specs.Receipt.{refusal, refused_books, amounts}
use Rattle.status.specs.Status.{flagged, status_tests, status_after}
use Rattle.settlement.specs.Settlement.{settlement_tests, settled_counters, settlement_receipt, settlement_at, settlement_after}
use Rattle.worth.specs.Worth.{amount_tests}
use Rattle.liquidity.specs.Liquidity.{deposit_tests, deposit_at, deposit_after, withdraw_tests, withdraw_at, withdraw_after}
use Rattle.opening.specs.Opening.{opening_tests, refused_opening, opening_after}
use Rattle.swap.specs.Swap.{last_tests, input_tests, output_tests, refused_swap, paid_books, swap_receipt, accepted_swap, swap_after}
use Rattle.pool.specs.State.{refused}
use Rattle.pool.specs.Calls.{zero_pool, zero_entries, opening, decision_of, swap_base_input, swap_base_output, deposit, withdraw, settlement, set_status}
use Rattle.calls.specs.Next.{next}
use Rattle.calls.specs.Registered.{registered_tests, next_with, opening_tests_with, opening_with}

-- opens every definition of the calls at once
unfoldable pub all : Unit {0}
unfolding root_at root ◌then◌ outcome fee_up fee_down split pre_fee swap_out swap_in lp_amount on_input inputWithFees curve_output curve_input charged with_fees outputWithFees
    booked charge_on rest_of charge_for least_sent entry_at with_entry price accepted_update refusal refused_books amounts rate_limits rate_tests counter_tests flagged status_tests status_after
    settlement_tests settled_counters settlement_receipt settlement_at settlement_after amount_tests deposit_tests deposit_at deposit_after withdraw_tests withdraw_at withdraw_after
    opening_tests refused_opening opening_after last_tests input_tests output_tests refused_swap paid_books swap_receipt accepted_swap swap_after
    refused zero_pool zero_entries opening decision_of swap_base_input swap_base_output deposit withdraw settlement set_status next
    some first_of numbered balance_of register_tests with_opener credit_tests place_of credited debited registered_tests next_with opening_tests_with opening_with
all = tt
