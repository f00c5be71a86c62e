-- Every row of the table of slices holds, by computation.
-- Assumes nothing.
use mathlib.Core.Path.{refl}
use Rattle.calls.proofs.Unfolded.{all}
use Rattle.history.specs.Run.{receipts}
use Rattle.slicing.specs.Slicing.{sum, swaps, together}
use Rattle.slicing.specs.Worked.{rows, WorkedSlices}

pub worked_slices : WorkedSlices
unfolding all receipts sum swaps together rows
worked_slices = (refl, refl)
