-- `history::theorem::register_theorem` meets its contract, which is document 02 (g).
use mathlib.Core.Path.{refl}
use Rattle.history.proofs.Registers.{register_theorem}
use Rattle.history.proofs.theorem.register_theorem.Goals as goal

pub returns : goal.returns
returns c = (refl, register_theorem)
