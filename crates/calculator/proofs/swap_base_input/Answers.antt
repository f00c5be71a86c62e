-- `calculator::swap_base_input` meets its contract: the rate limits are one stage, the rest another. (`unfolding(..)` on the function can't name `then`.)
use Rattle.std.proofs.Common.{rules}
use Rattle.refusal.specs.Tests.{outcome, tested, ◌then◌}
use Rattle.rates.specs.Rates.{rate_limits}
use Rattle.calculator.specs.Calculator.{input_answer}
use Rattle.calculator.specs.Stages.{input_stage}
use Rattle.calculator.proofs.swap_base_input.Goals as goal

pub returns-in_err-check_limits : goal.returns-in_err-check_limits
unfolding input_answer rate_limits tested outcome ◌then◌
returns-in_err-check_limits c = search rules

pub returns-then-fee_on_input : goal.returns-then-fee_on_input
unfolding input_answer input_stage rate_limits tested outcome ◌then◌
returns-then-fee_on_input c = search rules

pub returns-else-fee_on_input : goal.returns-else-fee_on_input
unfolding input_answer input_stage rate_limits tested outcome ◌then◌
returns-else-fee_on_input c = search rules
