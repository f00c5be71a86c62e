-- `edges::within_length` meets its contract.
use mathlib.Core.Path.{refl}
use Rattle.edges.proofs.WithinLength.{within_length}
use Rattle.edges.proofs.within_length.Goals as goal

pub returns : goal.returns
returns c = (refl, within_length)
