-- Document 01 with document 02 (a), (b) and (c), the two swaps up to the caller's limit: what a swap moves at the vaults and charges in fees,
-- over a pool's terms t, status and books b.
-- Each swap's whole list stands in `swap`; both begin with `front_tests`, and `net_tests` follow, by output after a 14.
use Rattle.std.specs.Prelude.{Result, Ok, Err, ℕ, Bool, true, false, cond, [], ◌∷◌, ltb, eqb}
use Rattle.refusal.specs.Refusal.{not_approved, exceeded_slippage, invalid_vault, invalid_fee_model, require_violated, panicked, transfer_fee_calculate_not_match}
use Rattle.refusal.specs.Tests.{Tests, ◌then◌, past, outcome}
use Rattle.rates.specs.declared.Terms.{Terms}
use Rattle.rates.specs.declared.Rates.{Rates}
use Rattle.rates.specs.Rates.{limit_tests as feeLimits, creator_rate, on_input}
use Rattle.calculator.specs.declared.SwapResult.{SwapResult}
use Rattle.calculator.specs.Calculator.{quote_tests, swap_base_input, swap_base_output}
use Rattle.accounting.specs.declared.Books.{Books}
use Rattle.accounting.specs.Counters.{of_token, net0, net1, counter_tests}
use Rattle.charge.specs.declared.Charge.{Charge}
use Rattle.charge.specs.declared.Charged.{Charged}
use Rattle.charge.specs.Charge.{rest_of, least_sent, sent_tests, charged_on}
use Rattle.status.specs.Status.{bit}
use Rattle.quotes.specs.declared.Quote.{Quote}

-- the nets of the token that goes in and of the one that comes out
abbrev pub net_in : Bool → Books → ℕ
net_in zeroIn b = of_token zeroIn (net0 b) (net1 b)

abbrev pub net_out : Bool → Books → ℕ
net_out zeroIn b = of_token zeroIn (net1 b) (net0 b)

-- ---- the charges, by document 02 (c)
-- of the token that goes in and of the one that comes out
abbrev pub charge_in : Bool → Terms → Charge
charge_in zeroIn t = of_token zeroIn t.charges.token0 t.charges.token1

abbrev pub charge_out : Bool → Terms → Charge
charge_out zeroIn t = of_token zeroIn t.charges.token1 t.charges.token0

-- what the swap is on: by input what arrives of the amount; by output what leaves the vault, so that the amount is received
abbrev pub vault_amount : Bool → Terms → Bool → ℕ → ℕ
vault_amount true t zeroIn amount = rest_of (charge_in zeroIn t) amount
vault_amount false t zeroIn amount = least_sent (charge_out zeroIn t) amount

-- what the solver sends, where the vaults move s
abbrev pub sent : Bool → Terms → Bool → ℕ → SwapResult → ℕ
sent true t zeroIn amount s = amount
sent false t zeroIn amount s = least_sent (charge_in zeroIn t) s.input

-- the charges on what the solver sends and on what leaves the vault
abbrev pub charged_of : Bool → Terms → Bool → ℕ → SwapResult → Charged
charged_of byInput t zeroIn amount s =
    charged_on t.charges
    (of_token zeroIn (sent byInput t zeroIn amount s) s.output)
    (of_token zeroIn s.output (sent byInput t zeroIn amount s))

-- ---- what the swap moves at the vaults and charges in fees; moved is the amount at the vault
abbrev pub with_fees : Bool → Bool → Rates → ℕ → ℕ → ℕ → ℕ → SwapResult
with_fees true = swap_base_input
with_fees false = swap_base_output

abbrev pub result_of : Bool → Terms → Books → Bool → ℕ → SwapResult
result_of byInput t b zeroIn moved =
    with_fees byInput (on_input t.fee_model zeroIn) t.rates (creator_rate t) (net_in zeroIn b) (net_out zeroIn b) moved

-- ---- the stages
-- the first zero test looks by input at what arrives, or at the amount itself where the direction is unknown; by output at the amount
abbrev pub looked : Bool → ℕ → ℕ → ℕ → ℕ
looked true direction amount arrives = cond (ltb 1 direction) amount arrives
looked false direction amount leaves = amount

-- both swaps' front: the rate limits, 3; bit 2 set or clock before open time, 1; what is looked at is 0, 10; direction 5
abbrev pub front_tests : Terms → ℕ → ℕ → ℕ → ℕ → Tests
front_tests t status direction seen clock =
    feeLimits t.rates
    then ((bit 2 status, not_approved)
    ∷ (ltb clock t.open_time, not_approved)
    ∷ (eqb seen 0, require_violated)
    ∷ (ltb 1 direction, invalid_vault)
    ∷ [])

-- by input no test; by output 14 where no u64 has the wanted output as its rest
abbrev pub wanted_tests : Bool → Terms → Bool → ℕ → Tests
wanted_tests true t zeroIn amount = []
wanted_tests false t zeroIn amount = sent_tests (charge_out zeroIn t) amount

-- a net of 0, 11; model 9
abbrev pub model_tests : ℕ → ℕ → ℕ → Tests
model_tests n0 n1 model = (eqb n0 0, panicked) ∷ (eqb n1 0, panicked) ∷ (ltb 2 model, invalid_fee_model) ∷ []

-- counters' sums 8, vaults 7; then those
abbrev pub net_tests : Books → ℕ → Tests
net_tests b model = counter_tests b then model_tests (net0 b) (net1 b) model

-- by input no test; by output the calculator's own
abbrev pub calculator_tests : Bool → Bool → Rates → ℕ → ℕ → ℕ → ℕ → Tests
calculator_tests true feeOnInput rates creator_rate net_in net_out amount = []
calculator_tests false feeOnInput rates creator_rate net_in net_out amount = quote_tests feeOnInput rates creator_rate net_in net_out amount

-- what the limit is compared with: by input what the solver receives, by output what he sends
abbrev pub solver_amount : Bool → Terms → Bool → SwapResult → ℕ
solver_amount true t zeroIn s = rest_of (charge_out zeroIn t) s.output
solver_amount false t zeroIn s = least_sent (charge_in zeroIn t) s.input

-- received 0, 10; below the limit, 2. Sent past u64, 14; above the limit, 2
abbrev pub slippage_tests : Bool → ℕ → ℕ → Tests
slippage_tests true received limit = (eqb received 0, require_violated) ∷ (ltb received limit, exceeded_slippage) ∷ []
slippage_tests false sent limit = (past sent, transfer_fee_calculate_not_match) ∷ (ltb limit sent, exceeded_slippage) ∷ []

-- all of them, in the call's order
unfoldable pub all_tests : Bool → Terms → ℕ → Books → ℕ → ℕ → ℕ → ℕ → Tests
all_tests byInput t status b direction amount limit clock =
    let zeroIn = eqb direction 0 in
    let moved = vault_amount byInput t zeroIn amount in
    let s = result_of byInput t b zeroIn moved in
    front_tests t status direction (looked byInput direction amount moved) clock
    then (wanted_tests byInput t zeroIn amount
    then (net_tests b t.fee_model
    then (calculator_tests byInput (on_input t.fee_model zeroIn) t.rates (creator_rate t) (net_in zeroIn b) (net_out zeroIn b) moved
    then slippage_tests byInput (solver_amount byInput t zeroIn s) limit)))

-- ---- the quote: what the swap moves at the vaults and charges in fees, with the nets and the tokens' charges; or a refused one's number
unfoldable pub quote_of : Bool → Terms → ℕ → Books → ℕ → ℕ → ℕ → ℕ → Result Quote ℕ
quote_of byInput t status b direction amount limit clock =
    let zeroIn = eqb direction 0 in
    let s = result_of byInput t b zeroIn (vault_amount byInput t zeroIn amount) in
    outcome (all_tests byInput t status b direction amount limit clock) Err
    (Ok (record { result = s; net0 = net0 b; net1 = net1 b; charged = charged_of byInput t zeroIn amount s }))
