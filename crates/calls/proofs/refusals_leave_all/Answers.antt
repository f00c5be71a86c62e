-- `calls::refusals_leave_all` carries demand 1.
use mathlib.Core.Path.{refl}
use Rattle.calls.proofs.Refusals.{refusals_leave_all}
use Rattle.calls.proofs.refusals_leave_all.Goals as goal

pub returns : goal.returns
returns c = (refl, refusals_leave_all)
