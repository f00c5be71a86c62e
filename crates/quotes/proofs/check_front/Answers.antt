-- `quotes::check_front` meets its contract: the rate limits are one stage, the rest another. (`unfolding(..)` on the function can't name `then`.)
use Rattle.std.proofs.Common.{rules}
use Rattle.refusal.specs.Tests.{tested, ◌then◌}
use Rattle.rates.specs.Rates.{rate_limits}
use Rattle.quotes.proofs.check_front.Goals as goal

pub returns-in_err-check_limits : goal.returns-in_err-check_limits
unfolding rate_limits tested ◌then◌
returns-in_err-check_limits c = search rules

pub returns : goal.returns
unfolding rate_limits tested ◌then◌
returns c = search rules

pub returns-in_err-refuse_if : goal.returns-in_err-refuse_if
unfolding rate_limits tested ◌then◌
returns-in_err-refuse_if c = search rules
