-- `edges::free_days_hold` meets its contract.
use mathlib.Core.Path.{refl}
use Rattle.edges.proofs.FreeDays.{free_days, no_swap_answers_4}
use Rattle.edges.proofs.free_days_hold.Goals as goal

pub returns : goal.returns
returns c = (refl, free_days, no_swap_answers_4)
