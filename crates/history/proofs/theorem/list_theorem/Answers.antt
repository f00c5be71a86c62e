-- `history::theorem::list_theorem` meets its contract, which is demand 3.
use mathlib.Core.Path.{refl}
use Rattle.history.proofs.ListTheorem.{list_theorem, every_point}
use Rattle.history.proofs.theorem.list_theorem.Goals as goal

pub returns : goal.returns
returns c = (refl, list_theorem, every_point)
