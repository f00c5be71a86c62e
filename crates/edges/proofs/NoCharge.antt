-- At points 0 nothing is charged, so what arrives and what is sent are the amount itself, and each call is the one without a charge.
-- Assumes nothing.
use Prim.Native.Nat.{ℕ, ◌+◌, ◌-◌, ◌≤◌}
use mathlib.Core.Path.{◌≡◌, refl, sym, ap, ◌∙◌}
use mathlib.Core.Bool.{Bool, true, false, cond}
use mathlib.Core.List.{[], ◌∷◌}
use lib.Dec.{ltb, leb, eqb}
use borrow.Author.Tests.{le-ltb}
use Rattle.refusal.specs.Refusal.{not_approved, exceeded_slippage, invalid_input, empty_supply, math_overflow, invalid_fee_model, require_violated, panicked, init_lp_amount_too_less, transfer_fee_calculate_not_match}
use Rattle.refusal.specs.Tests.{Tests, u64_max, ◌then◌, past, outcome}
use Rattle.refusal.proofs.Stops.{outcome_past, outcome_then}
use Rattle.rates.specs.declared.Terms.{Terms}
use Rattle.rates.specs.Rates.{rate_limits, rate_tests, creator_rate, on_input}
use Rattle.calculator.specs.declared.SwapResult.{SwapResult}
use Rattle.calculator.specs.Calculator.{curve_output, curve_input}
use Rattle.accounting.specs.declared.Books.{Books}
use Rattle.accounting.specs.Counters.{of_token, net0, net1, counter_tests}
use Rattle.accounting.specs.Booking.{creator_token, booked}
use Rattle.charge.specs.declared.Charged.{Charged}
use Rattle.charge.specs.declared.Charges.{Charges}
use Rattle.charge.specs.Charge.{rest_of, least_sent, nothing_charged, charged_on}
use Rattle.charge.proofs.Rest.{charge_none, rest_none, sent_none}
use Rattle.oracle.specs.declared.Ring.{Ring}
use Rattle.oracle.specs.Ring.{Entry, price}
use Rattle.receipt.specs.Kind.{opening_kind as kind}
use Rattle.receipt.specs.Receipt.{refused_books, amounts}
use Rattle.status.specs.Status.{bit}
use Rattle.settlement.specs.Settlement.{settlement_tests, settlement_receipt, settled, settlement_at, settlement_after}
use Rattle.worth.specs.Worth.{amount_tests, part}
use Rattle.liquidity.specs.Liquidity.{deposit_tests, deposited, deposit_at, deposit_after, paid, withdraw_tests, withdrawn, withdraw_at, withdraw_after}
use Rattle.opening.specs.declared.Opening.{Opening}
use Rattle.opening.specs.declared.OpeningAfter.{OpeningAfter}
use Rattle.opening.specs.Opening.{supply_of, least_supply, highest_points, grid_tests, opening_tests, books_with, opened_terms, refused_opening, opening_after}
use Rattle.quotes.specs.Quotes.{net_in, net_out, charge_in, charge_out, result_of, looked, front_tests, net_tests}
use Rattle.swap.specs.declared.SwapAfter.{SwapAfter}
use Rattle.swap.specs.Swap.{last_tests, input_tests, output_tests, refused_swap, accepted_swap, swap_after}
use Rattle.fees.specs.Fees.{fee_down}
use Rattle.edges.specs.NoCharge.{plain_input_tests, plain_output_tests, plain_swap, plain_deposit, plain_withdrawal, plain_settlement, plain_opening, Free, NoChargeNoChange}

-- ---- lists of tests
module _ {A : Type 0} (bad : ℕ → A) (good : A) where
  -- what is the same after a stage is the same with it
  under : (xs ys zs : Tests) → outcome ys bad good ≡ outcome zs bad good → outcome (xs then ys) bad good ≡ outcome (xs then zs) bad good
  under xs ys zs e = sym (outcome_then xs ys bad good) ∙ ap (outcome xs bad) e ∙ outcome_then xs zs bad good

  -- a test that is made again, whatever its number then
  again : (p : Bool) (n m : ℕ) (ts : Tests) → outcome ((p, n) ∷ (p, m) ∷ ts) bad good ≡ outcome ((p, n) ∷ ts) bad good
  unfolding outcome
  again true n m ts = refl
  again false n m ts = refl

  both_again :
      (p q : Bool) (n m : ℕ) (ts : Tests)
      → outcome ((p, n) ∷ (q, n) ∷ (p, m) ∷ (q, m) ∷ ts) bad good ≡ outcome ((p, n) ∷ (q, n) ∷ ts) bad good
  unfolding outcome
  both_again true q n m ts = refl
  both_again false true n m ts = refl
  both_again false false n m ts = refl

-- ---- a free pool's charges
module _ (c : Charges) (free : Free c) where
  free_charged : (n0 n1 : ℕ) → charged_on c n0 n1 ≡ nothing_charged
  free_charged n0 n1 = λ i. record { charge0 = charge_none c.token0 free.0 n0 i; charge1 = charge_none c.token1 free.1 n1 i }

  free_rest : (zero : Bool) (n : ℕ) → rest_of (of_token zero c.token0 c.token1) n ≡ n
  free_rest true n = rest_none c.token0 free.0 n
  free_rest false n = rest_none c.token1 free.1 n

  free_sent : (zero : Bool) (n : ℕ) → least_sent (of_token zero c.token0 c.token1) n ≡ n
  free_sent true n = sent_none c.token0 free.0 n
  free_sent false n = sent_none c.token1 free.1 n

-- ---- the swaps
module _ (t : Terms) (status : ℕ) (b : Books) (ring : Ring) (e : Entry) (direction amount limit clock : ℕ) (free : Free t.charges) where
  abbrev zero_in : Bool
  zero_in = eqb direction 0

  abbrev fee : Bool
  fee = on_input t.fee_model zero_in

  abbrev zero_fee : Bool
  zero_fee = creator_token fee zero_in

  abbrev bad : ℕ → SwapAfter
  bad = refused_swap b ring

  abbrev good : Bool → SwapResult → Charged → SwapAfter
  good byInput s charged =
      accepted_swap byInput zero_in zero_fee s charged (booked zero_in zero_fee s.protocol s.fund s.creator b.fees) b ring e
      (price (net0 b) (net1 b)) (price (net1 b) (net0 b)) clock

  abbrev lasts : SwapResult → Tests
  lasts s = last_tests zero_in zero_fee s b ring e clock

  in_free : (z : Bool) (n : ℕ) → rest_of (charge_in z t) n ≡ n
  in_free true n = free_rest t.charges free true n
  in_free false n = free_rest t.charges free false n

  out_free : (z : Bool) (n : ℕ) → rest_of (charge_out z t) n ≡ n
  out_free true n = free_rest t.charges free false n
  out_free false n = free_rest t.charges free true n

  in_sent : (z : Bool) (n : ℕ) → least_sent (charge_in z t) n ≡ n
  in_sent true n = free_sent t.charges free true n
  in_sent false n = free_sent t.charges free false n

  out_sent : (z : Bool) (n : ℕ) → least_sent (charge_out z t) n ≡ n
  out_sent true n = free_sent t.charges free false n
  out_sent false n = free_sent t.charges free true n

  -- by input, on what is looked at, what arrives and what is received
  abbrev input_with : ℕ → ℕ → ℕ → Charged → SwapAfter
  input_with seen arrives received charged =
      let s = result_of true t b zero_in arrives in
      outcome
      (front_tests t status direction seen clock
      then (net_tests b t.fee_model
      then ((eqb received 0, require_violated) ∷ (ltb received limit, exceeded_slippage) ∷ lasts s)))
      bad (good true s charged)

  seen_is : looked true direction amount (rest_of (charge_in zero_in t) amount) ≡ amount
  seen_is = go (ltb 1 direction)
    where
      go : (b : Bool) → cond b amount (rest_of (charge_in zero_in t) amount) ≡ amount
      go true = refl
      go false = in_free zero_in amount

  free_input : swap_after true t status b ring e direction amount limit clock ≡ plain_swap true t status b ring e direction amount limit clock
  unfolding swap_after input_tests plain_input_tests
  free_input =
      let arrives = in_free zero_in amount in
      let received = out_free zero_in (result_of true t b zero_in (rest_of (charge_in zero_in t) amount)).output ∙ ap (λ (m : ℕ). (result_of true t b zero_in m).output) arrives in
      let charged = free_charged t.charges free _ _ in
      λ i. input_with (seen_is i) (arrives i) (received i) (charged i)

  -- by output, on what leaves and what is sent
  abbrev output_with : ℕ → ℕ → Charged → SwapAfter
  output_with leaves sent charged =
      let s = result_of false t b zero_in leaves in
      outcome
      (front_tests t status direction amount clock
      then ((past leaves, transfer_fee_calculate_not_match)
      ∷ (net_tests b t.fee_model
      then ((leb (net_out zero_in b) (curve_output fee (creator_rate t) leaves), panicked)
      ∷ (past (curve_input fee (creator_rate t) (net_in zero_in b) (net_out zero_in b) leaves), panicked)
      ∷ (past s.input, panicked)
      ∷ (past sent, transfer_fee_calculate_not_match)
      ∷ (ltb limit sent, exceeded_slippage)
      ∷ lasts s))))
      bad (good false s charged)

  module _ (fits : amount ≤ u64_max) where
    abbrev s : SwapResult
    s = result_of false t b zero_in amount

    abbrev curves : Tests
    curves =
        (leb (net_out zero_in b) (curve_output fee (creator_rate t) amount), panicked)
        ∷ (past (curve_input fee (creator_rate t) (net_in zero_in b) (net_out zero_in b) amount), panicked)
        ∷ []

    abbrev limits : Tests
    limits = (ltb limit s.input, exceeded_slippage) ∷ lasts s

    -- neither 14 is met
    no_14 : output_with amount s.input nothing_charged ≡ plain_swap false t status b ring e direction amount limit clock
    unfolding plain_output_tests ◌then◌
    no_14 =
        let g = good false s nothing_charged in
        let nets = net_tests b t.fee_model in
        let panic : Bool × ℕ = (past s.input, panicked) in
        let unsent : Bool × ℕ = (past s.input, transfer_fee_calculate_not_match) in
        under bad g (front_tests t status direction amount clock)
        ((past amount, transfer_fee_calculate_not_match) ∷ (nets then (curves then (panic ∷ unsent ∷ limits)))) (nets then (curves then (panic ∷ limits)))
        (sym (outcome_past (past amount, transfer_fee_calculate_not_match) (nets then (curves then (panic ∷ unsent ∷ limits))) bad g (le-ltb u64_max amount fits))
        ∙ under bad g nets (curves then (panic ∷ unsent ∷ limits)) (curves then (panic ∷ limits))
        (under bad g curves (panic ∷ unsent ∷ limits) (panic ∷ limits) (again bad g (past s.input) panicked transfer_fee_calculate_not_match limits)))

    free_output : swap_after false t status b ring e direction amount limit clock ≡ plain_swap false t status b ring e direction amount limit clock
    unfolding swap_after output_tests
    free_output =
        let leaves = out_sent zero_in amount in
        let sent = in_sent zero_in (result_of false t b zero_in (least_sent (charge_out zero_in t) amount)).input ∙ ap (λ (m : ℕ). (result_of false t b zero_in m).input) leaves in
        let charged = free_charged t.charges free _ _ in
        (λ i. output_with (leaves i) (sent i) (charged i)) ∙ no_14

free_swap :
    (byInput : Bool) (t : Terms) (status : ℕ) (b : Books) (ring : Ring) (e : Entry) (direction amount limit clock : ℕ) → Free t.charges → amount ≤ u64_max
    → swap_after byInput t status b ring e direction amount limit clock ≡ plain_swap byInput t status b ring e direction amount limit clock
free_swap true t status b ring e direction amount limit clock free fits = free_input t status b ring e direction amount limit clock free
free_swap false t status b ring e direction amount limit clock free fits = free_output t status b ring e direction amount limit clock free fits

-- ---- deposit and withdrawal
module _ (c : Charges) (status : ℕ) (b : Books) (lp : ℕ) (free : Free c) where
  abbrev amount : Bool → ℕ → ℕ
  amount isDeposit net = part isDeposit lp b.supply net

  free_deposit : (maximum0 maximum1 : ℕ) → deposit_after c status b lp maximum0 maximum1 ≡ plain_deposit status b lp maximum0 maximum1
  unfolding deposit_after deposit_at deposit_tests counter_tests amount_tests ◌then◌
  free_deposit maximum0 maximum1 =
      let a0 = amount true (net0 b) in
      let a1 = amount true (net1 b) in
      let sent0 = sent_none c.token0 free.0 a0 in
      let sent1 = sent_none c.token1 free.1 a1 in
      let charged = free_charged c free (least_sent c.token0 a0) (least_sent c.token1 a1) in
      let g = deposited a0 a1 nothing_charged b lp in
      let before : Tests =
      (bit 0 status, not_approved) ∷ (eqb lp 0, require_violated)
      ∷ (counter_tests b then ((eqb b.supply 0, 4) ∷ (eqb a0 0, 4) ∷ (eqb a1 0, 4) ∷ [])) in
      let rooms : Tests = (past (b.vault0 + a0), math_overflow) ∷ (past (b.vault1 + a1), math_overflow) ∷ (past (b.supply + lp), panicked) ∷ [] in
      let limits : Tests = (ltb maximum0 a0, exceeded_slippage) ∷ (ltb maximum1 a1, exceeded_slippage) ∷ rooms in
      (λ i. outcome (deposit_tests a0 a1 (sent0 i) (sent1 i) status b lp maximum0 maximum1) (refused_books b) (deposited a0 a1 (charged i) b lp))
      ∙ under (refused_books b) g before
      ((past a0, panicked) ∷ (past a1, panicked) ∷ (past a0, transfer_fee_calculate_not_match) ∷ (past a1, transfer_fee_calculate_not_match) ∷ limits)
      ((past a0, panicked) ∷ (past a1, panicked) ∷ limits)
      (both_again (refused_books b) g (past a0) (past a1) panicked transfer_fee_calculate_not_match limits)

  free_withdrawal : (owned minimum0 minimum1 : ℕ) → withdraw_after c status b lp owned minimum0 minimum1 ≡ plain_withdrawal status b lp owned minimum0 minimum1
  unfolding withdraw_after withdraw_at withdraw_tests
  free_withdrawal owned minimum0 minimum1 =
      let paid0 = paid lp b.supply (net0 b) in
      let paid1 = paid lp b.supply (net1 b) in
      let received0 = rest_none c.token0 free.0 paid0 in
      let received1 = rest_none c.token1 free.1 paid1 in
      let charged = free_charged c free paid0 paid1 in
      λ i.
      outcome
      (withdraw_tests (amount false (net0 b)) (amount false (net1 b)) (received0 i) (received1 i) status b lp owned minimum0 minimum1)
      (refused_books b)
      (withdrawn paid0 paid1 (charged i) b lp)

-- ---- settlement and opening
free_settlement : (c : Charges) (b : Books) (share : ℕ) → Free c → settlement_after c b share ≡ plain_settlement b share
unfolding settlement_after settlement_at
free_settlement c b share free =
    let shared0 = fee_down b.fees.creator0 share in
    let shared1 = fee_down b.fees.creator1 share in
    let out0 = b.fees.creator0 - shared0 in
    let out1 = b.fees.creator1 - shared1 in
    let charged = free_charged c free out0 out1 in
    λ i.
    outcome (settlement_tests shared0 shared1 b share) (refused_books b)
    (record {
      books = (settled shared0 shared1 c b).books;
      receipt = settlement_receipt out0 out1 shared0 shared1 (charged i);
    })

free_opening : (o : Opening) → Free o.charges → opening_after o ≡ plain_opening o
unfolding opening_after opening_tests rate_tests rate_limits ◌then◌ outcome
free_opening o free = λ i. open_with (free.0 i) (free.1 i)
  where
    open_with : ℕ → ℕ → OpeningAfter
    open_with points0 points1 =
        outcome
        ((eqb o.amount0 0, empty_supply)
        ∷ (eqb o.amount1 0, empty_supply)
        ∷ (ltb 2 o.model, invalid_fee_model)
        ∷ (ltb 1 o.enabled, invalid_input)
        ∷ (rate_tests o.rates
        then ((ltb highest_points points0, invalid_input)
        ∷ (ltb highest_points points1, invalid_input)
        ∷ (grid_tests o.grid
        then ((ltb (supply_of o) least_supply, init_lp_amount_too_less)
        ∷ [])))))
        refused_opening
        (record {
          books = books_with o.amount0 o.amount1 (supply_of o);
          terms = opened_terms o;
          grid = o.grid;
          receipt = amounts kind o.amount0 o.amount1 0 0 (supply_of o) nothing_charged;
        })

pub no_charge_no_change : NoChargeNoChange
no_charge_no_change = record {
  swaps = free_swap;
  deposits = λ c status b lp maximum0 maximum1 free. free_deposit c status b lp free maximum0 maximum1;
  withdrawals = λ c status b lp owned minimum0 minimum1 free. free_withdrawal c status b lp free owned minimum0 minimum1;
  settlements = free_settlement;
  openings = free_opening;
}
