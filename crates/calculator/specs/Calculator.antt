-- Document 01, 'constant_product.rs, then calculator.rs', with document 02 (a): the two swaps with fees.
-- netIn is the net of the token that goes in, netOut of the other; creatorRate is the rate that counts (0 unless the pool enables it).
use Rattle.std.specs.Prelude.{Result, Ok, Err, ℕ, ◌+◌, ◌-◌, Bool, true, false, [], ◌∷◌, leb, eqb}
use Rattle.refusal.specs.Refusal.{panicked}
use Rattle.refusal.specs.Tests.{Tests, ◌then◌, past, outcome}
use Rattle.rates.specs.declared.Rates.{Rates}
use Rattle.rates.specs.Rates.{rate_limits}
use Rattle.calculator.specs.declared.SwapResult.{SwapResult}
use Rattle.fees.specs.Fees.{fee_up, fee_down, split, pre_fee}
use Rattle.curve.specs.ConstantProduct.{swap_out, swap_in}

-- protocol and fund fee are shares of the trade fee
unfoldable pub charged : Rates → ℕ → ℕ → ℕ → ℕ → SwapResult
charged rates input output trade creator = record {
  input = input;
  output = output;
  trade = trade;
  protocol = fee_down trade rates.protocol;
  fund = fee_down trade rates.fund;
  creator = creator;
}

-- fee on input: total fee at trade plus creator rate, creator part by the split, the rest is trade fee
-- fee on output: trade fee on input, creator fee on the curve's output
unfoldable pub swap_base_input : Bool → Rates → ℕ → ℕ → ℕ → ℕ → SwapResult
swap_base_input true rates creatorRate netIn netOut amount =
    let total = fee_up amount (rates.trade + creatorRate) in
    let creator = split total rates.trade creatorRate in
    charged rates amount (swap_out netIn netOut (amount - total)) (total - creator) creator
swap_base_input false rates creatorRate netIn netOut amount =
    let trade = fee_up amount rates.trade in
    let curve = swap_out netIn netOut (amount - trade) in
    let creator = fee_up curve creatorRate in
    charged rates amount (curve - creator) trade creator

-- the output with its creator fee, which is what the curve gives
unfoldable pub curve_output : Bool → ℕ → ℕ → ℕ
curve_output true creatorRate amount = amount
curve_output false creatorRate amount = pre_fee amount creatorRate

-- the input after its fees, which is what the curve asks
unfoldable pub curve_input : Bool → ℕ → ℕ → ℕ → ℕ → ℕ
curve_input feeOnInput creatorRate netIn netOut amount = swap_in netIn netOut (curve_output feeOnInput creatorRate amount)

-- the swap whose input is `asked` after its fees: fee on input, fee on output
unfoldable pub with_fees : Bool → Rates → ℕ → ℕ → ℕ → SwapResult
with_fees true rates creatorRate asked amount =
    let input = pre_fee asked (rates.trade + creatorRate) in
    let creator = split (input - asked) rates.trade creatorRate in
    charged rates input amount (input - asked - creator) creator
with_fees false rates creatorRate asked amount =
    let input = pre_fee asked rates.trade in
    charged rates input amount (input - asked) (curve_output false creatorRate amount - amount)

unfoldable pub swap_base_output : Bool → Rates → ℕ → ℕ → ℕ → ℕ → SwapResult
swap_base_output feeOnInput rates creatorRate netIn netOut amount =
    with_fees feeOnInput rates creatorRate (curve_input feeOnInput creatorRate netIn netOut amount) amount

-- ---- as functions: they make those tests of the calls again on which they rest
-- the rate limits, 3; netIn 0, 11
unfoldable pub input_answer : Bool → Rates → ℕ → ℕ → ℕ → ℕ → Result SwapResult ℕ
input_answer feeOnInput rates creatorRate netIn netOut amount =
    outcome
    (rate_limits rates creatorRate
    then ((eqb netIn 0, panicked) ∷ []))
    Err
    (Ok (swap_base_input feeOnInput rates creatorRate netIn netOut amount))

-- output with creator fee at or above netOut, 11; input before or after fees past u64, 11
unfoldable pub quote_tests : Bool → Rates → ℕ → ℕ → ℕ → ℕ → Tests
quote_tests feeOnInput rates creatorRate netIn netOut amount =
    (leb netOut (curve_output feeOnInput creatorRate amount), panicked)
    ∷ (past (curve_input feeOnInput creatorRate netIn netOut amount), panicked)
    ∷ (past (swap_base_output feeOnInput rates creatorRate netIn netOut amount).input, panicked)
    ∷ []

unfoldable pub output_answer : Bool → Rates → ℕ → ℕ → ℕ → ℕ → Result SwapResult ℕ
output_answer feeOnInput rates creatorRate netIn netOut amount =
    outcome
    (rate_limits rates creatorRate
    then quote_tests feeOnInput rates creatorRate netIn netOut amount)
    Err
    (Ok (swap_base_output feeOnInput rates creatorRate netIn netOut amount))
