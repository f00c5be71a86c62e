-- Document 02 (c): 'At points 0 .. no answer changes'. Each call without a charge, as documents 01 and 02 (a), (b), (e) and (f) have it, and that it is
-- what the call gives where both points are 0, whatever the maximums; its receipt shows charges of 0, and an opening's terms carry the charges that
-- it is given. A change of status takes none.
use Rattle.std.specs.Prelude.{ℕ, ◌+◌, ◌-◌, ◌≤◌, ◌≡◌, Bool, true, false, [], ◌∷◌, ltb, leb, eqb}
use Rattle.refusal.specs.Refusal.{not_approved, exceeded_slippage, invalid_input, empty_supply, math_overflow, invalid_fee_model, require_violated, panicked, init_lp_amount_too_less, left_lp_amount_too_less}
use Rattle.refusal.specs.Tests.{Tests, u64_max, ◌then◌, past, outcome}
use Rattle.fees.specs.Fees.{fee_down}
use Rattle.rates.specs.declared.Terms.{Terms}
use Rattle.rates.specs.Rates.{rate_tests, creator_rate, on_input}
use Rattle.calculator.specs.declared.SwapResult.{SwapResult}
use Rattle.calculator.specs.Calculator.{curve_output, curve_input}
use Rattle.accounting.specs.declared.Books.{Books}
use Rattle.accounting.specs.Counters.{net0, net1, counter_tests}
use Rattle.accounting.specs.Booking.{creator_token, booked}
use Rattle.accounting.specs.Locked.{lock_lp_amount}
use Rattle.charge.specs.declared.Charges.{Charges}
use Rattle.charge.specs.Charge.{no_charges, nothing_charged}
use Rattle.oracle.specs.declared.Ring.{Ring}
use Rattle.oracle.specs.Ring.{Entry, price}
use Rattle.receipt.specs.declared.BooksAfter.{BooksAfter}
use Rattle.receipt.specs.Kind.{opening_kind as kind}
use Rattle.receipt.specs.Receipt.{refused_books, amounts}
use Rattle.status.specs.Status.{bit}
use Rattle.settlement.specs.Settlement.{settlement_tests, settlement_receipt, settled, settlement_after}
use Rattle.worth.specs.Worth.{amount_tests, part}
use Rattle.liquidity.specs.Liquidity.{deposited, deposit_after, paid, withdrawn, withdraw_after}
use Rattle.opening.specs.declared.Opening.{Opening}
use Rattle.opening.specs.declared.OpeningAfter.{OpeningAfter}
use Rattle.opening.specs.Opening.{supply_of, least_supply, grid_tests, books_with, opened_terms, refused_opening, opening_after}
use Rattle.quotes.specs.Quotes.{net_in, net_out, result_of, front_tests, net_tests}
use Rattle.swap.specs.declared.SwapAfter.{SwapAfter}
use Rattle.swap.specs.Swap.{last_tests, refused_swap, accepted_swap, swap_after}

-- ---- the swaps without a charge
-- 3, 1, amount 0, 10; 5; 8, 7, 11, 9; output 0, 10; output below minimum, 2; counters, vault, ring
unfoldable pub plain_input_tests : Bool → Bool → SwapResult → Terms → ℕ → Books → Ring → Entry → ℕ → ℕ → ℕ → ℕ → Tests
plain_input_tests zeroIn zeroFee s t status b ring e direction amount minimum clock =
    front_tests t status direction amount clock
    then (net_tests b t.fee_model
    then ((eqb s.output 0, require_violated)
    ∷ (ltb s.output minimum, exceeded_slippage)
    ∷ last_tests zeroIn zeroFee s b ring e clock))

-- 3, 1, 10, 5, 8, 7, 11, 9; output with creator fee at or above netOut, 11; input before or after fees past u64, 11; input above maximum, 2; counters,
-- vault, ring
unfoldable pub plain_output_tests : Bool → Bool → Bool → SwapResult → Terms → ℕ → Books → Ring → Entry → ℕ → ℕ → ℕ → ℕ → Tests
plain_output_tests zeroIn feeOnInput zeroFee s t status b ring e direction amount maximum clock =
    front_tests t status direction amount clock
    then (net_tests b t.fee_model
    then ((leb (net_out zeroIn b) (curve_output feeOnInput (creator_rate t) amount), panicked)
    ∷ (past (curve_input feeOnInput (creator_rate t) (net_in zeroIn b) (net_out zeroIn b) amount), panicked)
    ∷ (past s.input, panicked)
    ∷ (ltb maximum s.input, exceeded_slippage)
    ∷ last_tests zeroIn zeroFee s b ring e clock))

abbrev pub plain_tests : Bool → Bool → Bool → Bool → SwapResult → Terms → ℕ → Books → Ring → Entry → ℕ → ℕ → ℕ → ℕ → Tests
plain_tests true zeroIn feeOnInput zeroFee = plain_input_tests zeroIn zeroFee
plain_tests false zeroIn feeOnInput zeroFee = plain_output_tests zeroIn feeOnInput zeroFee

abbrev pub plain_swap : Bool → Terms → ℕ → Books → Ring → Entry → ℕ → ℕ → ℕ → ℕ → SwapAfter
plain_swap byInput t status b ring e direction amount limit clock =
    let zeroIn = eqb direction 0 in
    let feeOnInput = on_input t.fee_model zeroIn in
    let zeroFee = creator_token feeOnInput zeroIn in
    let s = result_of byInput t b zeroIn amount in
    outcome (plain_tests byInput zeroIn feeOnInput zeroFee s t status b ring e direction amount limit clock)
    (refused_swap b ring)
    (accepted_swap byInput zeroIn zeroFee s nothing_charged (booked zeroIn zeroFee s.protocol s.fund s.creator b.fees) b ring e
    (price (net0 b) (net1 b)) (price (net1 b) (net0 b)) clock)

-- ---- deposit and withdrawal without a charge
abbrev pub plain_deposit : ℕ → Books → ℕ → ℕ → ℕ → BooksAfter
plain_deposit status b lp maximum0 maximum1 =
    let amount0 = part true lp b.supply (net0 b) in
    let amount1 = part true lp b.supply (net1 b) in
    outcome
    ((bit 0 status, not_approved)
    ∷ (eqb lp 0, require_violated)
    ∷ (counter_tests b
    then (amount_tests amount0 amount1 b.supply
    then ((ltb maximum0 amount0, exceeded_slippage)
    ∷ (ltb maximum1 amount1, exceeded_slippage)
    ∷ (past (b.vault0 + amount0), math_overflow)
    ∷ (past (b.vault1 + amount1), math_overflow)
    ∷ (past (b.supply + lp), panicked)
    ∷ []))))
    (refused_books b)
    (deposited amount0 amount1 nothing_charged b lp)

abbrev pub plain_withdrawal : ℕ → Books → ℕ → ℕ → ℕ → ℕ → BooksAfter
plain_withdrawal status b lp owned minimum0 minimum1 =
    let paid0 = paid lp b.supply (net0 b) in
    let paid1 = paid lp b.supply (net1 b) in
    outcome
    ((bit 1 status, not_approved)
    ∷ (eqb lp 0, require_violated)
    ∷ (ltb owned lp, require_violated)
    ∷ (counter_tests b
    then (amount_tests (part false lp b.supply (net0 b)) (part false lp b.supply (net1 b)) b.supply
    then ((ltb paid0 minimum0, exceeded_slippage)
    ∷ (ltb paid1 minimum1, exceeded_slippage)
    ∷ (ltb b.supply lp, panicked)
    ∷ (ltb (b.supply - lp) lock_lp_amount, left_lp_amount_too_less)
    ∷ []))))
    (refused_books b)
    (withdrawn paid0 paid1 nothing_charged b lp)

-- ---- settlement and opening without a charge
abbrev pub plain_settlement : Books → ℕ → BooksAfter
plain_settlement b share =
    let shared0 = fee_down b.fees.creator0 share in
    let shared1 = fee_down b.fees.creator1 share in
    outcome (settlement_tests shared0 shared1 b share) (refused_books b)
    (record {
      books = (settled shared0 shared1 no_charges b).books;
      receipt = settlement_receipt (b.fees.creator0 - shared0) (b.fees.creator1 - shared1) shared0 shared1 nothing_charged;
    })

abbrev pub plain_opening : Opening → OpeningAfter
plain_opening o =
    outcome
    ((eqb o.amount0 0, empty_supply)
    ∷ (eqb o.amount1 0, empty_supply)
    ∷ (ltb 2 o.model, invalid_fee_model)
    ∷ (ltb 1 o.enabled, invalid_input)
    ∷ (rate_tests o.rates
    then (grid_tests o.grid
    then ((ltb (supply_of o) least_supply, init_lp_amount_too_less)
    ∷ []))))
    refused_opening
    (record {
      books = books_with o.amount0 o.amount1 (supply_of o);
      terms = opened_terms o;
      grid = o.grid;
      receipt = amounts kind o.amount0 o.amount1 0 0 (supply_of o) nothing_charged;
    })

-- ---- at points 0
abbrev pub Free : Charges → Type 0
Free c = (c.token0.points ≡ 0) × (c.token1.points ≡ 0)

-- a swap's amount is a u64
pub record NoChargeNoChange : Type 0 where
  pub swaps :
      (byInput : Bool) (t : Terms) (status : ℕ) (b : Books) (ring : Ring) (e : Entry) (direction amount limit clock : ℕ)
      → Free t.charges → amount ≤ u64_max
      → swap_after byInput t status b ring e direction amount limit clock ≡ plain_swap byInput t status b ring e direction amount limit clock
  pub deposits :
      (c : Charges) (status : ℕ) (b : Books) (lp maximum0 maximum1 : ℕ) → Free c
      → deposit_after c status b lp maximum0 maximum1 ≡ plain_deposit status b lp maximum0 maximum1
  pub withdrawals :
      (c : Charges) (status : ℕ) (b : Books) (lp owned minimum0 minimum1 : ℕ) → Free c
      → withdraw_after c status b lp owned minimum0 minimum1 ≡ plain_withdrawal status b lp owned minimum0 minimum1
  pub settlements : (c : Charges) (b : Books) (share : ℕ) → Free c → settlement_after c b share ≡ plain_settlement b share
  pub openings : (o : Opening) → Free o.charges → opening_after o ≡ plain_opening o
