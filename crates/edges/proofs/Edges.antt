-- Every row of the table of edges holds, by computation.
-- Assumes nothing.
use mathlib.Core.Path.{refl}
use Rattle.calls.proofs.Unfolded.{all}
use Rattle.edges.specs.Edges.{edges, EdgesHold}

pub edges_hold : EdgesHold
unfolding all edges
edges_hold = refl
