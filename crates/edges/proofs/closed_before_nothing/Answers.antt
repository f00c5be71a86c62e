-- `edges::closed_before_nothing` meets its contract.
use mathlib.Core.Path.{refl}
use Rattle.edges.proofs.Closed.{closed_before_nothing}
use Rattle.edges.proofs.closed_before_nothing.Goals as goal

pub returns : goal.returns
returns c = (refl, closed_before_nothing)
