-- `slicing::worked_slices` meets its contract.
use mathlib.Core.Path.{refl}
use Rattle.slicing.proofs.Worked.{worked_slices}
use Rattle.slicing.proofs.worked_slices.Goals as goal

pub returns : goal.returns
returns c = (refl, worked_slices)
