-- `slicing::slicing_gains_nothing` meets its contract, which is document 02 (h).
use mathlib.Core.Path.{refl}
use Rattle.slicing.proofs.Slices.{slicing_gains_nothing, gains_nothing_with_charges}
use Rattle.slicing.proofs.slicing_gains_nothing.Goals as goal

pub returns : goal.returns
returns c = (refl, slicing_gains_nothing, gains_nothing_with_charges)
