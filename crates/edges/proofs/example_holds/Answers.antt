-- `edges::example_holds` meets its contract.
use mathlib.Core.Path.{refl}
use Rattle.edges.proofs.Example.{example}
use Rattle.edges.proofs.example_holds.Goals as goal

pub returns : goal.returns
returns c = (refl, example)
