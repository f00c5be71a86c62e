-- What the private steps of this crate answer. No public definition rests on these.
use Rattle.std.specs.Prelude.{Result, Ok, Err, ℕ, ◌+◌, ◌-◌, ◌≤◌, Bool, cond, eqb}
use Rattle.refusal.specs.Refusal.{panicked}
use Rattle.refusal.specs.Tests.{past, outcome}
use Rattle.fees.specs.Fees.{million, split, pre_fee}
use Rattle.curve.specs.ConstantProduct.{swap_out}
use Rattle.rates.specs.declared.Rates.{Rates}
use Rattle.rates.specs.Rates.{highest_fee_rate}
use Rattle.calculator.specs.declared.SwapResult.{SwapResult}
use Rattle.calculator.specs.Calculator.{charged, swap_base_input, quote_tests, swap_base_output}

-- what the rate limits leave
pub record Limited (rates : Rates) (creatorRate : ℕ) : Type 0 where
  pub fees : rates.trade + creatorRate ≤ highest_fee_rate
  pub shares : rates.protocol + rates.fund ≤ million

-- fee on input: what is charged of the total fee
unfoldable pub charged_split : Rates → ℕ → ℕ → ℕ → ℕ → SwapResult
charged_split rates creatorRate input output total =
    let creator = split total rates.trade creatorRate in
    charged rates input output (total - creator) creator

-- an amount before a fee
abbrev pub before_fee : ℕ → ℕ → Result ℕ ℕ
before_fee amount rate = cond (past (pre_fee amount rate)) (Err panicked) (Ok (pre_fee amount rate))

-- what the curve gives, past a net that is 0
abbrev pub curve_answer : ℕ → ℕ → ℕ → Result ℕ ℕ
curve_answer netIn netOut input = cond (eqb netIn 0) (Err panicked) (Ok (swap_out netIn netOut input))

-- a swap by input past the rate limits
unfoldable pub input_stage : Bool → Rates → ℕ → ℕ → ℕ → ℕ → Result SwapResult ℕ
input_stage feeOnInput rates creatorRate netIn netOut amount =
    cond (eqb netIn 0) (Err panicked) (Ok (swap_base_input feeOnInput rates creatorRate netIn netOut amount))

-- a swap by output past the rate limits
unfoldable pub output_stage : Bool → Rates → ℕ → ℕ → ℕ → ℕ → Result SwapResult ℕ
output_stage feeOnInput rates creatorRate netIn netOut amount =
    outcome
    (quote_tests feeOnInput rates creatorRate netIn netOut amount)
    Err
    (Ok (swap_base_output feeOnInput rates creatorRate netIn netOut amount))
