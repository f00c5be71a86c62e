-- `opening::open` meets its contract, stage by stage. (`unfolding(..)` on the function can't name `then`.)
use Rattle.std.proofs.Common.{rules}
use Rattle.refusal.specs.Tests.{tested, outcome, ◌then◌}
use Rattle.rates.specs.Rates.{rate_limits, rate_tests}
use Rattle.opening.specs.Opening.{opening_tests}
use Rattle.opening.specs.Stages.{opened}
use Rattle.opening.proofs.open.Goals as goal

pub returns-in_err-refuse_if : goal.returns-in_err-refuse_if
unfolding opened opening_tests outcome tested ◌then◌
returns-in_err-refuse_if c = search rules

pub returns-in_err-check : goal.returns-in_err-check
unfolding opened opening_tests rate_tests rate_limits outcome tested ◌then◌
returns-in_err-check c = search rules

pub returns-in_err-refuse_if-2 : goal.returns-in_err-refuse_if-2
unfolding opened opening_tests rate_tests rate_limits outcome tested ◌then◌
returns-in_err-refuse_if-2 c = search rules

pub returns-in_err-refuse_if-3 : goal.returns-in_err-refuse_if-3
unfolding opened opening_tests rate_tests rate_limits outcome tested ◌then◌
returns-in_err-refuse_if-3 c = search rules

pub returns-then-supply-lt-LEAST_SUPPLY : goal.returns-then-supply-lt-LEAST_SUPPLY
unfolding opened opening_tests rate_tests rate_limits outcome tested ◌then◌
returns-then-supply-lt-LEAST_SUPPLY c = search rules

pub returns : goal.returns
unfolding opened opening_tests rate_tests rate_limits outcome tested ◌then◌
returns c = search rules
