-- `edges::hundred_stays` meets its contract.
use mathlib.Core.Path.{refl}
use Rattle.edges.proofs.Hundred.{hundred_stays}
use Rattle.edges.proofs.hundred_stays.Goals as goal

pub returns : goal.returns
returns c = (refl, hundred_stays)
