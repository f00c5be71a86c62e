-- `quotes::find_nets` meets its contract. (`unfolding(..)` on the function can't name `then`.)
use Rattle.std.proofs.Common.{rules}
use Rattle.refusal.specs.Tests.{outcome, tested, ◌then◌}
use Rattle.accounting.specs.Counters.{counter_tests, nets_answer}
use Rattle.quotes.specs.Stages.{nets_at}
use Rattle.quotes.proofs.find_nets.Goals as goal

pub returns-in_err-nets : goal.returns-in_err-nets
unfolding nets_at nets_answer counter_tests outcome ◌then◌
returns-in_err-nets c = search rules

pub returns-in_err-refuse_if : goal.returns-in_err-refuse_if
unfolding nets_at nets_answer counter_tests outcome tested ◌then◌
returns-in_err-refuse_if c = search rules

pub returns : goal.returns
unfolding nets_at nets_answer counter_tests outcome tested ◌then◌
returns c = search rules
