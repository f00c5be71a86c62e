-- `edges::edges_hold` meets its contract.
use mathlib.Core.Path.{refl}
use Rattle.edges.specs.Edges.{edges}
use Rattle.edges.proofs.Edges.{edges_hold}
use Rattle.edges.proofs.edges_hold.Goals as goal

pub returns : goal.returns
unfolding edges
returns c = (refl, refl, edges_hold)
